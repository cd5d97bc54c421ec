-- The pixels of a drawn line, and how many there are. Assumes nothing.
use Prim.Native.Nat.{ℕ, zero, suc, ◌+◌, ◌*◌, ◌-◌, ◌≤◌, ◌<◌}
use mathlib.Core.Path.{◌≡◌, refl, ap, sym, ◌∙◌}
use mathlib.Core.List.{List, [], ◌∷◌, ◌++◌, append_assoc, append-nil}
use native.Mathlib.Numerals.{add-one}
use native.Mathlib.Omega.{arith}
use lib.ListN.{length, take, drop, get_or}
use lib.Seq.{take-suc, take-add, take_all, take-take}
use Rattle.std.proofs.lemmas.List.{take_rest, take-append-drop}
use Rattle.std.specs.List.{concat}
use Rattle.std.specs.Simd.{first_chunks}
use Rattle.session_listing.specs.Digits.{hex}
use Rattle.session_listing.specs.Text.{ended, pixels}

-- a pixel takes 7 bytes
pub length_pixels : (colours : List ℕ) → length (pixels colours) ≡ 7 * length colours
unfolding hex
length_pixels [] = refl
length_pixels (colour ∷ colours) = omega (arith, length_pixels colours)

-- the pixels of two lists are those of the one and then those of the other
pub pixels_append : (colours others : List ℕ) → pixels (colours ++ others) ≡ pixels colours ++ pixels others
pixels_append [] others = refl
pixels_append (colour ∷ colours) others = rw (pixels_append colours others) (sym (append_assoc (ended (hex colour)) (pixels colours) (pixels others)))

-- the next pixel stands behind those before it
pub pixels_more : (colours : List ℕ) (i : ℕ) → i < length colours → pixels (take i colours) ++ ended (hex (get_or colours i 0)) ≡ pixels (take (i + 1) colours)
pixels_more colours i more = rw (add-one i, take-suc colours i 0 more, pixels_append, append-nil)

-- the pixels of four colours, one behind another
pub four_pixels : (colours : List ℕ) → length colours ≡ 4
    → ended (hex (get_or colours 0 0)) ++ ended (hex (get_or colours 1 0)) ++ ended (hex (get_or colours 2 0)) ++ ended (hex (get_or colours 3 0)) ≡ pixels colours
four_pixels colours four =
    rw (pixels_more colours 0 (omega arith), pixels_more colours 1 (omega arith), pixels_more colours 2 (omega arith), pixels_more colours 3 (omega arith), ← four, take_all (length colours) colours (omega arith))

-- the pixels of the next four stand behind those of the fours before it
pub fours_more : (fours : List (List ℕ)) (i : ℕ) → i < length fours → pixels (concat (take i fours)) ++ pixels (get_or fours i []) ≡ pixels (concat (take (i + 1) fours))
fours_more [] i more = absurd (omega arith)
fours_more (four ∷ fours) zero more = rw append-nil
fours_more (four ∷ fours) (suc i) more =
    let next : suc i + 1 ≡ suc (i + 1) = omega arith in
    rw (next, pixels_append four (concat (take i fours)), append_assoc (pixels four) (pixels (concat (take i fours))) (pixels (get_or fours i [])), fours_more fours i (omega arith))
    (sym (pixels_append four (concat (take (i + 1) fours))))

-- the fours at the front of a list, joined, are as many of its elements
fours_joined : (count : ℕ) (colours : List ℕ) → concat (first_chunks 4 count colours) ≡ take (4 * count) colours
fours_joined zero colours = refl
fours_joined (suc count) colours = let all : 4 * suc count ≡ 4 + 4 * count = omega arith in rw (all, take-add 4 (4 * count) colours, fours_joined count (drop 4 colours))

-- the pixels of the rest of a list stand behind those of fours at its front
pub fours_rest : (fours : List (List ℕ)) (colours : List ℕ) (most : ℕ) → 4 * length fours ≤ most → fours ≡ first_chunks 4 (length fours) (take most colours)
    → pixels (concat fours) ++ pixels (take (length colours - 4 * length fours) (drop (4 * length fours) colours)) ≡ pixels colours
fours_rest fours colours most fits is =
    let front : concat fours ≡ take (4 * length fours) colours = ap concat is ∙ fours_joined (length fours) (take most colours) ∙ take-take (4 * length fours) most colours fits in
    rw (front, take_rest, ← pixels_append (take (4 * length fours) colours) (drop (4 * length fours) colours), take-append-drop (4 * length fours) colours)

-- taking as many as were taken of a list takes the same
pub take_taken : (width : ℕ) (output : List ℕ) → take (length (take width output)) output ≡ take width output
take_taken zero output = refl
take_taken (suc width) [] = refl
take_taken (suc width) (colour ∷ output) = ap (λ (others : List ℕ). colour ∷ others) (take_taken width output)
