-- An entry's text, and the colours that it shows. Assumes nothing.
use Prim.Native.Nat.{ℕ, ◌/◌, ◌%◌}
use mathlib.Core.Path.{◌≡◌, refl, sym}
use mathlib.Core.List.{List, [], ◌∷◌}
use native.Mathlib.Nat.{div-one}
use lib.ListN.{length, take, length-take}
use Rattle.session_listing.specs.Digits.{digit, hex}
use Rattle.session_listing.specs.Text.{EntrySays, says_ok, says_at, says_line, says_refused, ended, colours_shown, text}
use Rattle.session_listing.specs.Inner.{count_shown, parts_text, PartsOf}
use Rattle.session_listing.specs.declared.parts.Parts.{Parts}
use Rattle.session_listing.proofs.Pixels.{take_taken}

-- the six digits of a colour, one by one
pub six_digits : (colour : ℕ) {fifth fourth third second first last : ℕ} → fifth ≡ digit (colour / 1048576 % 16) → fourth ≡ digit (colour / 65536 % 16)
    → third ≡ digit (colour / 4096 % 16) → second ≡ digit (colour / 256 % 16) → first ≡ digit (colour / 16 % 16) → last ≡ digit (colour % 16)
    → fifth ∷ fourth ∷ third ∷ second ∷ first ∷ last ∷ 10 ∷ [] ≡ ended (hex colour)
unfolding hex
six_digits colour five four three two one zero = rw (five, four, three, two, one, zero, div-one)

-- as many colours are shown as are counted
pub shown_length : (listed : EntrySays) (output : List ℕ) → count_shown listed (length output) ≡ length (colours_shown listed output)
shown_length says_ok output = refl
shown_length (says_at x y) output = refl
shown_length (says_line y width) output = sym (length-take width output)
shown_length (says_refused refusal) output = refl

-- the colours shown are the first of the output
shown_taken : (listed : EntrySays) (output : List ℕ) → take (length (colours_shown listed output)) output ≡ colours_shown listed output
shown_taken says_ok output = refl
shown_taken (says_at x y) output = refl
shown_taken (says_line y width) output = take_taken width output
shown_taken (says_refused refusal) output = refl

-- an entry's parts, and the colours that these show, make its text
pub whole_text : (listed : EntrySays) (output : List ℕ) (parts : Parts) → PartsOf listed (length output) parts → parts_text parts (take parts.pixels output) ≡ text listed output
unfolding text
whole_text listed output parts told = rw (told.says, told.shows, shown_length listed output, shown_taken listed output)
