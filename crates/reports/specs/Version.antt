-- The version of the package. Calls and points that were there change only with its first two numbers.
use Rattle.std.specs.Prelude.{ℕ, ◌+◌, ◌*◌}

abbrev pub major : ℕ
major = 0

abbrev pub minor : ℕ
minor = 8

abbrev pub patch : ℕ
patch = 0

-- as one number: 0.8.0 is 8000
abbrev pub version : ℕ
version = 1000000 * major + 1000 * minor + patch
