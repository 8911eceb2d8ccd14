-- `reading::check_body` meets its contract. Assumes nothing.
use mathlib.Core.Path.{sym, ap, ◌∙◌}
use mathlib.Core.List.{List}
use Prim.Native.Nat.{ℕ, ◌+◌, ◌-◌}
use native.Mathlib.Omega.{arith}
use lib.ListN.{length, take, drop, length-drop, drop_of_length-le}
use Rattle.textform.specs.Bytes.{bytes}
use Rattle.textform.specs.Form.{Head, bad_line, starts_with, corner_names, read_vertex, read_face}
use Rattle.decimal.proofs.Reading.{part_rest}
use Rattle.text.proofs.Lines.{starts_is}
use Rattle.reading.specs.Answers.{head_is, bare}
use Rattle.reading.proofs.Body.{block_at, body_vertex, names_missing, names_there, names_within, body_face, body_surplus, body_whole}
use Rattle.reading.proofs.check_body.Goals as goal

pub overflow_add-result : goal.overflow_add-result
overflow_add-result c =
    let l : List ℕ = c.args.text.now in
    let h : Head = head_is c.args.head in
    let vs = block_at (read_vertex h.marks) h.counts.vertices l c.args.at c.requires (c.count_lines-vs.ensures (bare (read_vertex h.marks)) (λ m r p. rw p.shows at p.says.met.reads)) in
    omega (arith, vs.few)

pub overflow_add-i : goal.overflow_add-i
overflow_add-i c =
    let l : List ℕ = c.args.text.now in
    let h : Head = head_is c.args.head in
    let vs = block_at (read_vertex h.marks) h.counts.vertices l c.args.at c.requires (c.count_lines-vs.ensures (bare (read_vertex h.marks)) (λ m r p. rw p.shows at p.says.met.reads)) in
    omega (arith, vs.within)

pub slice_bounds-starts_with-count : goal.slice_bounds-starts_with-count
slice_bounds-starts_with-count c =
    let l : List ℕ = c.args.text.now in
    let h : Head = head_is c.args.head in
    let vs = block_at (read_vertex h.marks) h.counts.vertices l c.args.at c.requires (c.count_lines-vs.ensures (bare (read_vertex h.marks)) (λ m r p. rw p.shows at p.says.met.reads)) in
    omega (arith, vs.within)

pub slice_bounds-starts_with-start : goal.slice_bounds-starts_with-start
slice_bounds-starts_with-start c =
    let l : List ℕ = c.args.text.now in
    let h : Head = head_is c.args.head in
    let vs = block_at (read_vertex h.marks) h.counts.vertices l c.args.at c.requires (c.count_lines-vs.ensures (bare (read_vertex h.marks)) (λ m r p. rw p.shows at p.says.met.reads)) in
    omega (arith, vs.within)

pub returns-then-vs-v : goal.returns-then-vs-v
returns-then-vs-v c =
    let l : List ℕ = c.args.text.now in
    let h : Head = head_is c.args.head in
    let vs = block_at (read_vertex h.marks) h.counts.vertices l c.args.at c.requires (c.count_lines-vs.ensures (bare (read_vertex h.marks)) (λ m r p. rw p.shows at p.says.met.reads)) in
    record { reads = ap (λ (k : ℕ). bad_line (4 + k)) vs.good ∙ body_vertex h _ (λ e. c.if-vs-v.true (vs.good ∙ e)); within = tt }

pub returns-then-not-starts_with : goal.returns-then-not-starts_with
unfolding bytes
returns-then-not-starts_with c =
    let l : List ℕ = c.args.text.now in
    let h : Head = head_is c.args.head in
    let vs = block_at (read_vertex h.marks) h.counts.vertices l c.args.at c.requires (c.count_lines-vs.ensures (bare (read_vertex h.marks)) (λ m r p. rw p.shows at p.says.met.reads)) in
    let i : ℕ = c.args.at + c.count_lines-vs.result.used in
    let starts = ap (starts_with (corner_names tt)) (sym (part_rest l i)) ∙ starts_is (corner_names tt) (take (length l - i) (drop i l)) c.starts_with.ensures.value in
    record { reads = names_missing h l c.args.at vs c.if-vs-v.false (starts ∙ c.if-not-starts_with.true); within = tt }

pub overflow_add-result-then-fs-f-2 : goal.overflow_add-result-then-fs-f-2
unfolding bytes read_face
overflow_add-result-then-fs-f-2 c =
    let l : List ℕ = c.args.text.now in
    let h : Head = head_is c.args.head in
    let vs = block_at (read_vertex h.marks) h.counts.vertices l c.args.at c.requires (c.count_lines-vs.ensures (bare (read_vertex h.marks)) (λ m r p. rw p.shows at p.says.met.reads)) in
    let i : ℕ = c.args.at + c.count_lines-vs.result.used in
    let starts = ap (starts_with (corner_names tt)) (sym (part_rest l i)) ∙ starts_is (corner_names tt) (take (length l - i) (drop i l)) c.starts_with.ensures.value in
    let there = starts ∙ c.if-not-starts_with.false in
    let names = names_there h l c.args.at vs c.if-vs-v.false there in
    let within = names_within h l c.args.at vs c.if-vs-v.false there in
    let j : ℕ = i + 8 in
    let fs = block_at read_face h.counts.faces l j within (c.count_lines-fs.ensures (bare read_face) (λ m r p. rw p.shows at p.says.met.reads)) in
    omega (arith, fs.few)

pub overflow_add-j-2 : goal.overflow_add-j-2
unfolding bytes read_face
overflow_add-j-2 c =
    let l : List ℕ = c.args.text.now in
    let h : Head = head_is c.args.head in
    let vs = block_at (read_vertex h.marks) h.counts.vertices l c.args.at c.requires (c.count_lines-vs.ensures (bare (read_vertex h.marks)) (λ m r p. rw p.shows at p.says.met.reads)) in
    let i : ℕ = c.args.at + c.count_lines-vs.result.used in
    let starts = ap (starts_with (corner_names tt)) (sym (part_rest l i)) ∙ starts_is (corner_names tt) (take (length l - i) (drop i l)) c.starts_with.ensures.value in
    let there = starts ∙ c.if-not-starts_with.false in
    let names = names_there h l c.args.at vs c.if-vs-v.false there in
    let within = names_within h l c.args.at vs c.if-vs-v.false there in
    let j : ℕ = i + 8 in
    let fs = block_at read_face h.counts.faces l j within (c.count_lines-fs.ensures (bare read_face) (λ m r p. rw p.shows at p.says.met.reads)) in
    omega (arith, fs.within)

pub returns-then-fs-f : goal.returns-then-fs-f
unfolding bytes read_face
returns-then-fs-f c =
    let l : List ℕ = c.args.text.now in
    let h : Head = head_is c.args.head in
    let vs = block_at (read_vertex h.marks) h.counts.vertices l c.args.at c.requires (c.count_lines-vs.ensures (bare (read_vertex h.marks)) (λ m r p. rw p.shows at p.says.met.reads)) in
    let i : ℕ = c.args.at + c.count_lines-vs.result.used in
    let starts = ap (starts_with (corner_names tt)) (sym (part_rest l i)) ∙ starts_is (corner_names tt) (take (length l - i) (drop i l)) c.starts_with.ensures.value in
    let there = starts ∙ c.if-not-starts_with.false in
    let names = names_there h l c.args.at vs c.if-vs-v.false there in
    let within = names_within h l c.args.at vs c.if-vs-v.false there in
    let j : ℕ = i + 8 in
    let fs = block_at read_face h.counts.faces l j within (c.count_lines-fs.ensures (bare read_face) (λ m r p. rw p.shows at p.says.met.reads)) in
    record { reads = ap (λ (k : ℕ). bad_line (5 + c.args.head.counts.vertices + k)) fs.good ∙ body_face names (λ e. c.if-fs-f.true (fs.good ∙ e)); within = tt }

pub returns-then-j-fs : goal.returns-then-j-fs
unfolding bytes read_face
returns-then-j-fs c =
    let l : List ℕ = c.args.text.now in
    let h : Head = head_is c.args.head in
    let vs = block_at (read_vertex h.marks) h.counts.vertices l c.args.at c.requires (c.count_lines-vs.ensures (bare (read_vertex h.marks)) (λ m r p. rw p.shows at p.says.met.reads)) in
    let i : ℕ = c.args.at + c.count_lines-vs.result.used in
    let starts = ap (starts_with (corner_names tt)) (sym (part_rest l i)) ∙ starts_is (corner_names tt) (take (length l - i) (drop i l)) c.starts_with.ensures.value in
    let there = starts ∙ c.if-not-starts_with.false in
    let names = names_there h l c.args.at vs c.if-vs-v.false there in
    let within = names_within h l c.args.at vs c.if-vs-v.false there in
    let j : ℕ = i + 8 in
    let fs = block_at read_face h.counts.faces l j within (c.count_lines-fs.ensures (bare read_face) (λ m r p. rw p.shows at p.says.met.reads)) in
    let w = fs.within in
    let r = ap length fs.rest in
    record { reads = body_surplus names (sym fs.good ∙ c.if-fs-f.false) (omega (arith, length-drop (j + c.count_lines-fs.result.used) l)); within = tt }

pub returns : goal.returns
unfolding bytes read_face
returns c =
    let l : List ℕ = c.args.text.now in
    let h : Head = head_is c.args.head in
    let vs = block_at (read_vertex h.marks) h.counts.vertices l c.args.at c.requires (c.count_lines-vs.ensures (bare (read_vertex h.marks)) (λ m r p. rw p.shows at p.says.met.reads)) in
    let i : ℕ = c.args.at + c.count_lines-vs.result.used in
    let starts = ap (starts_with (corner_names tt)) (sym (part_rest l i)) ∙ starts_is (corner_names tt) (take (length l - i) (drop i l)) c.starts_with.ensures.value in
    let there = starts ∙ c.if-not-starts_with.false in
    let names = names_there h l c.args.at vs c.if-vs-v.false there in
    let within = names_within h l c.args.at vs c.if-vs-v.false there in
    let j : ℕ = i + 8 in
    let fs = block_at read_face h.counts.faces l j within (c.count_lines-fs.ensures (bare read_face) (λ m r p. rw p.shows at p.says.met.reads)) in
    record { reads = body_whole names (sym fs.good ∙ c.if-fs-f.false) (fs.rest ∙ drop_of_length-le l {i = j + c.count_lines-fs.result.used} (omega (arith, c.if-j-fs.false))); within = within }
