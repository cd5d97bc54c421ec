-- What is found, fault by fault. Assumes nothing.
use Prim.Native.Nat.{ℕ}
use mathlib.Core.Path.{◌≡◌, ap, ◌∙◌}
use mathlib.Core.Bool.{Bool, true, false, not, ◌&&◌, and-false}
use mathlib.Core.List.{List}
use Rattle.refusals.specs.declared.Refusal.TheVariants.{WrongRecord, FileEnds, TooMuch}
use Rattle.session_records.specs.Parts.{record_of, length_of}
use Rattle.session_records.specs.Faults.{wrong, too_much, missing}
use Rattle.session_records.specs.RecordAt.{cut_short, record_at}
use Rattle.session_records.specs.declared.record.Context.{Context}
use Rattle.session_records.specs.declared.record.RecordAt.TheVariants.{Is, More, Refused}

module _ (context : Context) (bytes : List ℕ) where
  -- wrong: 12, whatever else there is
  pub found_wrong : wrong bytes ≡ true → record_at context bytes ≡ Refused (WrongRecord context.number)
  unfolding record_at
  found_wrong faulty = rw faulty

  module _ (right : wrong bytes ≡ false) where
    module _ (cut : missing bytes ≡ true) where
      -- bytes are missing, and the file goes on: more
      pub found_more : context.last ≡ false → record_at context bytes ≡ More
      unfolding record_at
      found_more goes_on = rw (right, cut, goes_on)

      module _ (ends : context.last ≡ true) where
        -- bytes are missing, and the file ends at a record that is too much: 14
        pub found_cut_much : too_much context bytes ≡ true → record_at context bytes ≡ Refused (TooMuch context.number)
        unfolding record_at
        found_cut_much much = rw (right, much, ends)

        -- bytes are missing, and the file ends: 13
        pub found_cut : too_much context bytes ≡ false → record_at context bytes ≡ Refused (FileEnds context.number)
        unfolding record_at
        found_cut few = rw (right, few, cut, ends)

    module _ (all : missing bytes ≡ false) where
      -- what is all there waits for nothing
      waits_not : cut_short context bytes ≡ false
      waits_not = ap (λ (short : Bool). not context.last && short) all ∙ and-false (not context.last)

      -- all of it is there, and it is too much: 14
      pub found_much : too_much context bytes ≡ true → record_at context bytes ≡ Refused (TooMuch context.number)
      unfolding record_at
      found_much much = rw (right, waits_not, much)

      -- all of it is there: the record
      pub found_is : too_much context bytes ≡ false → record_at context bytes ≡ Is (record_of bytes) (length_of bytes)
      unfolding record_at
      found_is few = rw (right, waits_not, few, all)
