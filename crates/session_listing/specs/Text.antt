-- The text of an entry.
use Rattle.std.specs.Prelude.{ℕ, List, [], ◌∷◌, ◌++◌, take}
use Prim.Native.Char.{code}
use Prim.Native.String.{String}
use Prim.Native.String as string
use Rattle.rules.specs.Faults.{Numbered}
use Rattle.refusals.specs.Refusal.{numbered}
use Rattle.session_listing.specs.Digits.{decimal, hex}
use Rattle.session_listing.specs.declared.entry.ListingEntry.{ListingEntry}
use Rattle.session_listing.specs.declared.entry.ListingEntry.TheVariants.{Ok, At, Line, Refused}

-- the bytes of a word in ASCII
abbrev pub ascii : String → List ℕ
ascii string.[] = []
ascii (string.◌∷◌ letter word) = code letter ∷ ascii word

-- an entry as the paper has it: what is done, a position, a line drawn so wide, or a refusal's number and values (CHIP 9.7)
pub data EntrySays : Type 0 where
  says_ok : EntrySays
  says_at : ℕ → ℕ → EntrySays
  says_line : ℕ → ℕ → EntrySays
  says_refused : Numbered → EntrySays

-- what an entry says
abbrev pub entry_says : ListingEntry → EntrySays
entry_says Ok = says_ok
entry_says (At x y) = says_at x y
entry_says (Line y width) = says_line y width
entry_says (Refused refusal) = says_refused (numbered refusal)

-- a line of text, ended (CHIP 9.7)
abbrev pub ended : List ℕ → List ℕ
ended line = line ++ 10 ∷ []

-- numbers in decimal, a space before each (CHIP 9.7)
abbrev pub spaced : List ℕ → List ℕ
spaced [] = []
spaced (number ∷ numbers) = 32 ∷ decimal number ++ spaced numbers

-- each colour on a line of its own (CHIP 9.7)
abbrev pub pixels : List ℕ → List ℕ
pixels [] = []
pixels (colour ∷ colours) = ended (hex colour) ++ pixels colours

-- the first line of an entry, without its end (CHIP 9.7)
abbrev pub first_line : EntrySays → List ℕ
first_line says_ok = ascii "ok"
first_line (says_at x y) = ascii "at" ++ spaced (x ∷ y ∷ [])
first_line (says_line y width) = ascii "line" ++ spaced (y ∷ [])
first_line (says_refused refusal) = ascii "refused" ++ spaced (refusal.number ∷ refusal.values)

-- the colours that an entry shows: of a drawn line, those of the output up to its width (CHIP 9.7)
abbrev pub colours_shown : EntrySays → List ℕ → List ℕ
colours_shown says_ok output = []
colours_shown (says_at x y) output = []
colours_shown (says_line y width) output = take width output
colours_shown (says_refused refusal) output = []

-- an entry's text: its first line, and each colour that it shows on a line of its own (CHIP 9.7)
unfoldable pub text : EntrySays → List ℕ → List ℕ
text listed output = ended (first_line listed) ++ pixels (colours_shown listed output)
