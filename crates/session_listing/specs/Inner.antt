-- What the functions that put text say of it.
use Rattle.std.specs.Prelude.{ℕ, zero, suc, ◌+◌, ◌/◌, ◌%◌, ◌≤◌, min, ◌≡◌, List, [], ◌∷◌, ◌++◌, length}
use Rattle.std.proofs.lemmas.List.Edits.{sets}
use Rattle.session_listing.specs.Digits.{digit}
use Rattle.session_listing.specs.Text.{ascii, EntrySays, says_ok, says_at, says_line, says_refused, ended, spaced, pixels, first_line}
use Rattle.session_listing.specs.declared.parts.Word.{Word}
use Rattle.session_listing.specs.declared.parts.Word.TheVariants.{Ok, At, Line, Refused}
use Rattle.session_listing.specs.declared.parts.Numbers.{Numbers}
use Rattle.session_listing.specs.declared.parts.Numbers.TheVariants.{Nothing, One, Two}
use Rattle.session_listing.specs.declared.parts.Parts.{Parts}

-- some bytes are put into lent ones, from a place on: what these are left as, and the place after the bytes, which is none past the end
pub record Put (lent : List ℕ) (place : ℕ) (bytes left : List ℕ) (next : ℕ) : Type 0 where
  pub stored : left ≡ sets lent place bytes
  pub after : next ≡ place + length bytes
  pub fits : next ≤ length lent

-- some bytes are put into lent ones, from a place on, but the place after them is open: what is put there next stands behind them
pub record PutAhead (lent : List ℕ) (place : ℕ) (bytes left : List ℕ) (next : ℕ) : Type 0 where
  pub covered : (byte : ℕ) (more : List ℕ) → sets left next (byte ∷ more) ≡ sets lent place (bytes ++ byte ∷ more)
  pub after : next ≡ place + length bytes
  pub long : length left ≡ length lent

-- of so many bytes from one on, the two hex digits of each, and two line feeds behind them
abbrev pub pairs_from : ℕ → ℕ → List ℕ
pairs_from byte zero = []
pairs_from byte (suc count) = digit (byte / 16) ∷ digit (byte % 16) ∷ 10 ∷ 10 ∷ pairs_from (suc byte) count

-- the hex digits of all bytes
unfoldable pub pair_table : List ℕ
pair_table = pairs_from 0 256

-- the letters of a word
abbrev pub letters_of : Word → List ℕ
letters_of Ok = ascii "ok"
letters_of At = ascii "at"
letters_of Line = ascii "line"
letters_of Refused = ascii "refused"

-- the numbers behind a word, as a list
abbrev pub numbers_of : Numbers → List ℕ
numbers_of Nothing = []
numbers_of (One number) = number ∷ []
numbers_of (Two first second) = first ∷ second ∷ []

-- the first line of some parts
abbrev pub parts_line : Parts → List ℕ
parts_line parts = letters_of parts.word ++ spaced (numbers_of parts.numbers)

-- the first line, and each of some colours on a line of its own
abbrev pub parts_text : Parts → List ℕ → List ℕ
parts_text parts colours = ended (parts_line parts) ++ pixels colours

-- how many colours an entry shows of so many
abbrev pub count_shown : EntrySays → ℕ → ℕ
count_shown says_ok count = 0
count_shown (says_at x y) count = 0
count_shown (says_line y width) count = min width count
count_shown (says_refused refusal) count = 0

-- these parts are an entry's, where the output has so many colours
pub record PartsOf (listed : EntrySays) (count : ℕ) (parts : Parts) : Type 0 where
  pub says : parts_line parts ≡ first_line listed
  pub shows : parts.pixels ≡ count_shown listed count
  pub few : parts.pixels ≤ count
