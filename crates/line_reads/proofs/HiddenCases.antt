-- What may be otherwise without a line's answer being so, kind by kind: each is a case of what a line doesn't see. Assumes nothing.
use Prim.Native.Nat.{ℕ, ◌-◌, ◌/◌, ◌%◌, ◌^◌, ◌+◌, ◌≤◌}
use mathlib.Core.Path.{◌≡◌, refl, sym, ap, ◌∙◌}
use mathlib.Core.Bool.{false}
use mathlib.Core.List.{List}
use native.Mathlib.Omega.{arith}
use lib.Pow.{mod-mod-pow}
use Rattle.rules.specs.Rule.{refused}
use Rattle.rules.specs.Faults.{Numbered}
use Rattle.rules.proofs.Cases.{impossible}
use Rattle.words.specs.Field.{bits}
use Rattle.line_formats.specs.Table.{widths_of}
use Rattle.line_colour.specs.Shown.{sample_of}
use Rattle.line_pixels.specs.Cells.{pixel_word}
use Rattle.line_setup.specs.declared.setup.Setup.{Setup}
use Rattle.line.specs.Cells.{Lent, lent_of}
use Rattle.line.specs.Line.{line_of}
use Rattle.line_reads.specs.TableList.{WindowListed}
use Rattle.line_reads.specs.Unseen.{window_word, SameFields, SameWindowEntries, SameShown, SameRows}
use Rattle.line_reads.specs.Hidden.{other_store, other_table, other_normal, other_overlay, SameChosen, SameHalves, SameUncovered, SameOverlaid}
use Rattle.line_reads.proofs.Active.{window_active, table_on}
use Rattle.line_reads.proofs.Unseen.{seen_rests}

-- words that are the same in some bits are the same in fewer of them
fewer_bits : (word other low count wide : ℕ) → count ≤ wide → bits word low wide ≡ bits other low wide → bits word low count ≡ bits other low count
fewer_bits word other low count wide fits same = fewer word ∙ ap (λ (part : ℕ). part % 2 ^ count) same ∙ sym (fewer other)
  where
    -- fewer bits are the rest of more bits by a power of two
    fewer : (w : ℕ) → bits w low count ≡ bits w low wide % 2 ^ count
    fewer w =
        let part : wide - count + count ≡ wide = omega arith in
        sym (ap (λ (z : ℕ). w / 2 ^ low % 2 ^ z % 2 ^ count) (sym part) ∙ mod-mod-pow (w / 2 ^ low) (wide - count) count)

module _ (setup : Setup) (lent : Lent) where
  -- the same store shows the same
  pub store_same : SameShown setup lent lent.store
  store_same =
      record {
        windows = λ id listed. refl;
        glyphs = λ colours is_drawn x active entry has row column at. refl;
        cursor_colours = λ colours is_drawn x active entry has number shows. refl;
        map_entries = λ colours is_drawn x active entry has clear number hit. refl;
        gamma_bytes = λ colours is_drawn x active entry has clear channel number hit. refl;
      }

  -- the same rows show the same
  pub rows_same : SameRows setup lent lent.normal lent.overlay
  rows_same =
      record {
        overlay_bytes = λ colours is_drawn x active entry has clear counts. refl;
        samples = λ colours is_drawn x active entry has clear under. refl;
      }

  -- ---- rows

  -- other rows: only what is seen of them decides
  pub rows_rest : (normal overlay : List ℕ) → SameRows setup lent normal overlay → line_of setup lent ≡ line_of setup (lent_of lent.store lent.table normal overlay)
  rows_rest normal overlay same =
      seen_rests setup lent (lent_of lent.store lent.table normal overlay) (record { table = λ cell listed. refl; store = store_same; rows = same })

  module _ (row : List ℕ) where
    -- another back buffer changes nothing
    pub other_back_buffer : SameChosen setup lent row → line_of setup lent ≡ line_of setup (other_normal lent row)
    other_back_buffer same =
        rows_rest row lent.overlay
        (record {
          overlay_bytes = rows_same.overlay_bytes;
          samples = λ colours is_drawn x active entry has clear under. same colours is_drawn x active entry has;
        })

    -- where each window takes half a pixel, other halves change nothing
    pub other_halves : SameHalves setup lent row → line_of setup lent ≡ line_of setup (other_normal lent row)
    other_halves same =
        other_back_buffer (λ colours is_drawn x active entry has.
        let half = same colours is_drawn x active entry has in
        fewer_bits (pixel_word setup.controls.depth lent.normal x) (pixel_word setup.controls.depth row x) entry.low
        (widths_of entry.format).bits (setup.controls.depth / 2) half.0 half.1)

    -- other samples under an opaque overlay or cursor change nothing
    pub other_covered_samples : SameUncovered setup lent row → line_of setup lent ≡ line_of setup (other_normal lent row)
    other_covered_samples same =
        rows_rest row lent.overlay
        (record {
          overlay_bytes = rows_same.overlay_bytes;
          samples = λ colours is_drawn x active entry has clear under. ap (sample_of entry) (same colours is_drawn x active entry has clear under);
        })

    -- other overlay bytes under an opaque cursor, or where overlay doesn't count, change nothing
    pub other_overlay_same : SameOverlaid setup lent row → line_of setup lent ≡ line_of setup (other_overlay lent row)
    other_overlay_same same =
        rows_rest lent.normal row
        (record { overlay_bytes = same; samples = rows_same.samples })

    -- where overlay is off, no byte of it is seen
    pub rows_off : setup.controls.overlay ≡ false → SameRows setup lent lent.normal row
    rows_off off =
        record {
          overlay_bytes = λ colours is_drawn x active entry has clear counts. impossible (cc counts.on);
          samples = rows_same.samples;
        }

    -- so any overlay row has the same outcome
    pub overlay_off : setup.controls.overlay ≡ false → line_of setup lent ≡ line_of setup (other_overlay lent row)
    overlay_off off = rows_rest lent.normal row (rows_off off)

  -- ---- the store and the table

  -- other windows that are not on the line, other colours that no pixel shows and other bits that are not kept change nothing
  pub other_unused : (store : List ℕ) → SameShown setup lent store → line_of setup lent ≡ line_of setup (other_store lent store)
  other_unused store same =
      seen_rests setup lent (other_store lent store)
      (record { table = λ cell listed. refl; store = same; rows = rows_same })

  -- windows that are not on the line may be any: those of the IDs that active pixels have are enough
  pub windows_on_line : (store : List ℕ) → ((id : ℕ) → WindowListed setup lent setup.controls.width id → window_word lent.store id ≡ window_word store id)
      → SameWindowEntries setup lent store
  windows_on_line store same = λ id listed. same id (window_active setup lent id listed)

  -- other entries that the line doesn't read, and other bits that are ignored, change nothing
  pub other_ignored_bits : (table : List ℕ) → SameFields setup lent table → line_of setup lent ≡ line_of setup (other_table lent table)
  other_ignored_bits table same =
      seen_rests setup lent (other_table lent table) (record { table = same; store = store_same; rows = rows_same })

  -- where window IDs are off, no field of a table is seen
  pub fields_off : (table : List ℕ) → setup.controls.ids ≡ false → SameFields setup lent table
  fields_off table off = λ cell listed. impossible (cc (table_on setup lent cell listed))

  -- so any table has the same outcome
  pub other_table_same : (table : List ℕ) → setup.controls.ids ≡ false → line_of setup lent ≡ line_of setup (other_table lent table)
  other_table_same table off = other_ignored_bits table (fields_off table off)

  -- ---- a line that is refused

  -- any rows, colours, gamma words and cursor words: only the table and the windows that the line meets count
  pub refused_rests : {refusal : Numbered} → line_of setup lent ≡ refused refusal → (store normal overlay : List ℕ) → SameWindowEntries setup lent store
      → line_of setup (lent_of store lent.table normal overlay) ≡ refused refusal
  refused_rests e store normal overlay same =
      sym (seen_rests setup lent (lent_of store lent.table normal overlay)
      (record {
        table = λ cell listed. refl;
        store = record {
          windows = same;
          glyphs = λ colours is_drawn. impossible (cc);
          cursor_colours = λ colours is_drawn. impossible (cc);
          map_entries = λ colours is_drawn. impossible (cc);
          gamma_bytes = λ colours is_drawn. impossible (cc);
        };
        rows = record { overlay_bytes = λ colours is_drawn. impossible (cc); samples = λ colours is_drawn. impossible (cc) };
      }))
      ∙ e
