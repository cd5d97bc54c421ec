-- However a file is cut into pieces, its steps list its listing. Assumes nothing.
use Prim.Native.Nat.{ℕ, zero, suc, ◌+◌, ◌≤◌}
use mathlib.Core.Path.{◌≡◌, refl, ap, sym, ◌∙◌}
use mathlib.Core.Bool.{true}
use mathlib.Core.List.{List, [], ◌++◌, append_assoc, append-nil}
use native.Mathlib.Omega.{arith}
use lib.ListN.{length, drop}
use lib.Seq.{drop-append-le}
use Rattle.rules.specs.Faults.{Numbered}
use Rattle.rules.specs.Lists.{joined}
use Rattle.rules.proofs.Cases.{impossible}
use Rattle.session_listing.specs.Text.{EntrySays, says_refused, text}
use Rattle.session_answers.specs.Status.{Status, listed, ended, needs_more, stopped}
use Rattle.session_rooms.specs.Rooms.{longest_line}
use Rattle.session.specs.Held.{Held, nothing_held}
use Rattle.session.specs.Record.{stepped}
use Rattle.session.specs.Listing.{listing_from, listing}
use Rattle.session_files.specs.Outputs.{with_output}
use Rattle.session_files.specs.Steps.{none, Steps, adds, waits, lists, ends, stops}
use Rattle.session_files.proofs.Step.{listed_counts, listed_takes, listed_there, listed_below, waiting_leaves}
use Rattle.session_files.proofs.Behind.{step_of_whole}
use Rattle.session_files.proofs.Outputs.{listing_any_output}

-- ---- the listing, by its first step

module _ (count : ℕ) (held : Held) (bytes : List ℕ) where
  -- where it lists an entry, the text of that comes first, and the rest follows
  listing_lists : {after : Held} {taken : ℕ} {entry : EntrySays} → stepped true held bytes ≡ ((after, taken), listed entry)
      → listing_from (suc count) held bytes ≡ text entry after.output ++ listing_from count after (drop taken bytes)
  listing_lists e = rw e

  -- where it finds the end record, the listing is empty
  listing_ends : (stepped true held bytes).1 ≡ ended → listing_from (suc count) held bytes ≡ []
  listing_ends e = rw e

  -- where it finds a fault of the file, the refusal is all that is listed
  listing_stops : {refusal : Numbered} → (stepped true held bytes).1 ≡ stopped refusal → listing_from (suc count) held bytes ≡ text (says_refused refusal) held.output
  unfolding text
  listing_stops e = rw (e, append-nil)

-- ---- the steps list the listing

module _ (held : Held) (unread : List ℕ) (pieces : List (List ℕ)) {after : Held} {taken : ℕ} {entry : EntrySays}
    (e : stepped (none pieces) held unread ≡ ((after, taken), listed entry)) where
  -- a step that lists an entry
  lists_entry : (stepped (none pieces) held unread).1 ≡ listed entry
  lists_entry = rw e

  -- it is the step of the whole file
  lists_whole : stepped true held (unread ++ joined pieces) ≡ ((after, taken), listed entry)
  lists_whole = step_of_whole held unread pieces (λ more. impossible cc) ∙ e

  -- behind its record the same bytes are left
  pub lists_rest : drop taken (unread ++ joined pieces) ≡ drop taken unread ++ joined pieces
  lists_rest =
      let takes = listed_takes (none pieces) held unread lists_entry in
      let enough : taken ≤ length unread = rw (sym takes ∙ ap (λ (s : (Held × ℕ) × Status). s.0.1) e) at (listed_there (none pieces) held unread lists_entry) in
      drop-append-le taken unread (joined pieces) enough

  -- it counts its record
  lists_counts : after.records ≡ held.records + 1
  lists_counts = rw e at (listed_counts (none pieces) held unread lists_entry)

-- a step that waits leaves all as it was, and takes nothing
waits_same : (held : Held) (unread : List ℕ) (pieces : List (List ℕ)) {after : Held} {taken : ℕ}
    → stepped (none pieces) held unread ≡ ((after, taken), needs_more) → ◌≡◌ {A = Held × ℕ} (after, taken) (held, 0)
waits_same held unread pieces e =
    ap (λ (s : (Held × ℕ) × Status). s.0) (sym e) ∙ waiting_leaves (none pieces) held unread (ap (λ (s : (Held × ℕ) × Status). s.1) e)

-- from anything held, with so many further records left
pub steps_list : {held : Held} {unread : List ℕ} {pieces : List (List ℕ)} {listing : List ℕ} → Steps held unread pieces listing
    → (left : ℕ) → left + held.records ≡ 1000000 → listing ≡ listing_from (suc left) held (unread ++ joined pieces)
steps_list (adds {held = held} {unread = unread} {piece = piece} {pieces = pieces} steps) left few =
    steps_list steps left few ∙ ap (listing_from (suc left) held) (append_assoc unread piece (joined pieces))
steps_list (waits {held = held} {unread = unread} {pieces = pieces} {rest = rest} e steps) left few =
    let same = waits_same held unread pieces e in
    steps_list steps left (rw (ap (λ (all : Held × ℕ). all.0) same) few)
    ∙ ap (λ (all : Held × ℕ). listing_from (suc left) all.0 (drop all.1 unread ++ joined pieces)) same
steps_list (lists {held = held} {unread = unread} {pieces = pieces} e steps) zero few =
    absurd (omega (arith, listed_below (none pieces) held unread (lists_entry held unread pieces e)))
steps_list (lists {held = held} {after = after} {unread = unread} {pieces = pieces} {entry = entry} e steps) (suc left) few =
    ap (λ (rest : List ℕ). text entry after.output ++ rest)
    (steps_list steps left (omega (arith, lists_counts held unread pieces e)) ∙ ap (listing_from (suc left) after) (sym (lists_rest held unread pieces e)))
    ∙ sym (listing_lists (suc left) held (unread ++ joined pieces) (lists_whole held unread pieces e))
steps_list (ends {held = held} {unread = unread} {pieces = pieces} e) left few =
    sym (listing_ends left held (unread ++ joined pieces) (ap (λ (s : (Held × ℕ) × Status). s.1) (step_of_whole held unread pieces (λ more. impossible cc)) ∙ e))
steps_list (stops {held = held} {unread = unread} {pieces = pieces} e) left few =
    sym (listing_stops left held (unread ++ joined pieces) (ap (λ (s : (Held × ℕ) × Status). s.1) (step_of_whole held unread pieces (λ more. impossible cc)) ∙ e))

-- however a file is cut and whenever its pieces are lent, its steps list its listing, from the bytes that are lent at first and over any output
pub cut_lists : {output first : List ℕ} {pieces : List (List ℕ)} {text : List ℕ} → length output ≡ longest_line
    → Steps (with_output nothing_held output) first pieces text → text ≡ listing (first ++ joined pieces)
cut_lists {output} {first} {pieces} long steps = steps_list steps 1000000 refl ∙ listing_any_output output (first ++ joined pieces) long

-- two cuts of the same bytes list the same text
pub cuts_agree : {output old : List ℕ} {pieces others : List (List ℕ)} {text other : List ℕ} → length output ≡ longest_line → length old ≡ longest_line
    → joined pieces ≡ joined others → Steps (with_output nothing_held output) [] pieces text → Steps (with_output nothing_held old) [] others other → text ≡ other
cuts_agree long as_long same steps others = cut_lists long steps ∙ ap listing same ∙ sym (cut_lists as_long others)
