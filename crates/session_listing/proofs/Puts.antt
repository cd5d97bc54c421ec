-- Bytes put one behind another. Assumes nothing.
use Prim.Native.Nat.{ℕ, suc, ◌+◌, ◌≤◌, ◌<◌}
use mathlib.Core.Path.{◌≡◌, refl, ◌∙◌}
use mathlib.Core.List.{List, [], ◌∷◌, ◌++◌}
use native.Mathlib.Nat.{add-zero, add-suc, suc-add}
use native.Mathlib.Numerals.{add-one}
use native.Mathlib.Omega.{arith}
use lib.ListN.{length, set, length-append}
use lib.Seq.{sets, length-sets, sets-eq, take-length}
use borrow.Rule.Slice.PartMut.{put_mid}
use Rattle.std.proofs.lemmas.Slice.{put_mid-paste}
use Rattle.session_listing.specs.Room.{placed}
use Rattle.session_listing.specs.Inner.{Put}

-- some bytes and then others behind them are both
sets_append : (bytes others lent : List ℕ) (place : ℕ) → sets (sets lent place bytes) (place + length bytes) others ≡ sets lent place (bytes ++ others)
sets_append [] others lent place = rw add-zero
sets_append (byte ∷ bytes) others lent place = rw (add-suc, ← suc-add) (sets_append bytes others (set lent place byte) (suc place))

-- one store puts one byte
pub put_one : (lent : List ℕ) (place byte : ℕ) {next : ℕ} → place < length lent → next ≡ place + 1 → Put lent place (byte ∷ []) (set lent place byte) next
put_one lent place byte inside after = record { stored = refl; after = after; fits = omega arith }

-- bytes written over a part of lent ones are put
pub put_part : {lent bytes part : List ℕ} {place count next : ℕ} → part ≡ bytes → length bytes ≡ count → next ≡ place + count → next ≤ length lent
    → Put lent place bytes (put_mid place count lent part) next
put_part {lent} {bytes} {part} {place} {count} same long after fits = record {
  stored = put_mid-paste place count lent part bytes (length bytes) same long refl ∙ rw (take-length bytes, sets-eq bytes lent place (omega arith));
  after = omega arith;
  fits = fits;
}

-- stores behind a place, one after another
abbrev stores : List ℕ → ℕ → ℕ → List ℕ → List ℕ
stores lent place count [] = lent
stores lent place count (byte ∷ bytes) = stores (set lent (place + count) byte) place (suc count) bytes

-- stores behind a place are stores from the first of them on
stores_sets : (bytes lent : List ℕ) (place count : ℕ) → stores lent place count bytes ≡ sets lent (place + count) bytes
stores_sets [] lent place count = refl
stores_sets (byte ∷ bytes) lent place count = stores_sets bytes (set lent (place + count) byte) place (suc count) ∙ rw add-suc

-- stores one after another put their bytes
pub put_stores : (byte : ℕ) (bytes lent : List ℕ) (place : ℕ) → place + length (byte ∷ bytes) ≤ length lent
    → Put lent place (byte ∷ bytes) (stores (set lent place byte) place 1 bytes) (place + length (byte ∷ bytes))
put_stores byte bytes lent place fits = record { stored = stores_sets bytes (set lent place byte) place 1 ∙ rw add-one; after = refl; fits = fits }

module _ {lent bytes left : List ℕ} {place next : ℕ} (put : Put lent place bytes left next) where
  -- lent bytes stay as many
  pub put_length : length left ≡ length lent
  put_length = rw put.stored (length-sets lent place bytes)

  -- equal bytes are put by the same stores
  pub put_as : {others : List ℕ} → bytes ≡ others → Put lent place others left next
  put_as same = rw (← same) put

  -- bytes put behind those that are put
  pub put_then : {others last : List ℕ} {end : ℕ} → Put left next others last end → Put lent place (bytes ++ others) last end
  put_then {others} then = record {
    stored = rw (then.stored, put.stored, put.after) (sets_append bytes others lent place);
    after = rw length-append (omega (arith, put.after, then.after));
    fits = omega (arith, put_length, then.fits);
  }

  -- lent bytes as the contract has them
  pub put_placed : left ≡ placed lent place bytes
  put_placed = put.stored ∙ sets-eq bytes lent place (omega (arith, put.after, put.fits))
