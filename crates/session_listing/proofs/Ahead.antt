-- Bytes put with the place after them open. Assumes nothing.
use Prim.Native.Nat.{ℕ, suc, ◌+◌, ◌<◌}
use mathlib.Core.Path.{◌≡◌, ap, sym, ◌∙◌}
use mathlib.Core.List.{List, [], ◌∷◌, ◌++◌, append_assoc}
use native.Mathlib.Nat.{add-zero, add-suc, suc-add}
use native.Mathlib.Omega.{arith}
use lib.ListN.{length, set, length-append}
use lib.Seq.{sets, set-set}
use Rattle.session_listing.specs.Inner.{Put, PutAhead}
use Rattle.session_listing.proofs.Puts.{put_length}

-- bytes put from the last of others on cover that one alone
sets_over : (bytes : List ℕ) (last : ℕ) (lent : List ℕ) (place byte : ℕ) (more : List ℕ)
    → sets (sets lent place (bytes ++ last ∷ [])) (place + length bytes) (byte ∷ more) ≡ sets lent place (bytes ++ byte ∷ more)
sets_over [] last lent place byte more = rw (add-zero, set-set)
sets_over (first ∷ bytes) last lent place byte more = rw (add-suc, ← suc-add) (sets_over bytes last (set lent place first) (suc place) byte more)

-- a byte too many leaves the place after the others open
pub ahead_one : (bytes : List ℕ) (last : ℕ) {lent left : List ℕ} {place end next : ℕ} → Put lent place (bytes ++ last ∷ []) left end → next ≡ place + length bytes
    → PutAhead lent place bytes left next
ahead_one bytes last {lent} {place = place} put after = record {
  covered = λ byte more. rw (put.stored, after) (sets_over bytes last lent place byte more);
  after = after;
  long = put_length put;
}

module _ {lent bytes left : List ℕ} {place next : ℕ} (ahead : PutAhead lent place bytes left next) where
  -- equal bytes are put by the same stores
  pub ahead_as : {others : List ℕ} → bytes ≡ others → PutAhead lent place others left next
  ahead_as same = rw (← same) ahead

  -- any bytes but none cover the open place
  covered_by : (others : List ℕ) (byte : ℕ) (more : List ℕ) → sets left next (others ++ byte ∷ more) ≡ sets lent place (bytes ++ (others ++ byte ∷ more))
  covered_by [] byte more = ahead.covered byte more
  covered_by (other ∷ others) byte more = ahead.covered other (others ++ byte ∷ more)

  -- bytes put behind those that are put, with the place after them open too
  pub ahead_then : {others last : List ℕ} {end : ℕ} → PutAhead left next others last end → PutAhead lent place (bytes ++ others) last end
  ahead_then {others} then = record {
    covered = λ byte more.
        then.covered byte more ∙ covered_by others byte more ∙ ap (λ (all : List ℕ). sets lent place all) (sym (append_assoc bytes others (byte ∷ more)));
    after = rw length-append (omega (arith, ahead.after, then.after));
    long = then.long ∙ ahead.long;
  }

  -- bytes put behind those that are put, with nothing open
  pub ahead_last : (others : List ℕ) {last : List ℕ} {end : ℕ} → 0 < length others → Put left next others last end → Put lent place (bytes ++ others) last end
  ahead_last [] some then = absurd (omega arith)
  ahead_last (other ∷ others) some then = record {
    stored = then.stored ∙ ahead.covered other others;
    after = rw length-append (omega (arith, ahead.after, then.after));
    fits = omega (arith, ahead.long, then.fits);
  }
