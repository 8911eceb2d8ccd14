pub mod FaceLetter
