-- Every board piece keeps the duties of a part. Assumes nothing.
use Rattle.std.specs.Prelude.{◌≡◌, ℕ, ◌^◌, ◌<◌, ◌≤◌, List, [], ◌∷◌, length, Some, None, Option, refl}
use Rattle.std.proofs.Common.{sym, ap, subst, ◌∙◌, arith, pow_mono}
use Rattle.std.specs.List.{slice_get}
use Rattle.bank.specs.declared.field.Place.{Place}
use Rattle.part.specs.declared.row.Row.{Row}
use Rattle.piece.specs.declared.shapes.PieceKind.{PieceKind}
use Rattle.piece.specs.declared.shapes.PieceKind.TheVariants.{Src, Gate, Fix, Div, Mux, Pll}
use Rattle.piece.specs.declared.shapes.SrcPiece.{SrcPiece}
use Rattle.piece.specs.declared.shapes.GatePiece.{GatePiece}
use Rattle.piece.specs.declared.shapes.FixPiece.{FixPiece}
use Rattle.piece.specs.declared.shapes.DivPiece.{DivPiece}
use Rattle.piece.specs.declared.shapes.MuxPiece.{MuxPiece}
use Rattle.piece.specs.declared.shapes.PllPiece.{PllPiece}
use Rattle.part.specs.Meanings.{Meaning}
use Rattle.part.specs.Duties.{Duties, RowDuty}
use Rattle.part.specs.Lists.{few_listed}
use Rattle.piece.specs.Pieces.{Reading, rows_from, values_of, meaning_of}
use Rattle.piece.specs.Shown.{kind_of, number_of}
use Rattle.piece.specs.RowLists.{Counts, value_in, row_at, length_rows}
use Rattle.piece.specs.DividerRows.{divider_own_counts, divider_count_range}
use Rattle.piece.specs.MuxRows.{mux_own_counts}
use Rattle.piece.specs.PllRows.{d_lt, n_lt, pll_own_counts, pll_count_range}
use Rattle.std.proofs.lemmas.Option.{none-some, same_Some}

-- what is left to say of a part that is no source, once its rows are counted
record Rest (m : Meaning) (row : ℕ → Row) (k : ℕ) : Type 0 where
  no_source : m.source ≡ None
  range : (1 ≤ k) × (k ≤ 16384)
  each : (i : ℕ) → i < k → RowDuty m.number (row i)
  single : m.field ≡ None → (r : Row) × (m.rows ≡ r ∷ []) × (value_in r ≡ 0)
  bit : (p : Place) → m.gate ≡ Some p → p.width ≡ 1
  band : (m.band.lo ≤ m.band.hi) × (m.band.hi ≤ 2 ^ 40)

module _ (m : Meaning) {f : ℕ → Option Reading} {row : ℕ → Row} {k : ℕ} (counts : Counts f (values_of m.field) row k) (are : m.rows ≡ rows_from f 0 (values_of m.field)) (rest : Rest m row k) where
  at : (i : ℕ) (r : Row) → slice_get m.rows i ≡ Some r → (i < k) × (r ≡ row i)
  at i r e = row_at counts i r (ap (λ rs. slice_get rs i) (sym are) ∙ e)

  long : length m.rows ≡ k
  long = ap length are ∙ length_rows counts

  counted_duties : Duties m
  counted_duties = record {
    source = λ rate e. absurd (none-some rate (sym rest.no_source ∙ e));
    count = λ _. let h = long in let g = rest.range in (omega arith, omega arith);
    each = λ i r e. let h = at i r e in subst (RowDuty m.number) (sym h.1) (rest.each i h.0);
    rising = λ i j r s lt e g.
        let a = at i r e in
        let b = at j s g in
        omega (arith, counts.rising i j lt b.0, ap value_in a.1, ap value_in b.1);
    fitting = λ p e i r g. let h = at i r g in omega (arith, counts.fits i h.0, ap value_in h.1, ap values_of e);
    single = λ _ e. rest.single e;
    bit = rest.bit;
    band = rest.band;
  }

-- the one row of a part without a rate field
abbrev only_row : ℕ → ℕ → ℕ → ℕ → Row
only_row p n d i = record { value = record { 0 = 0 }; parent = p; n = n; d = d }

only_counts : (p n d : ℕ) → Counts (λ _. Some (record { parent = p; n = n; d = d })) 1 (only_row p n d) 1
only_counts p n d = record {
  rising = λ i j lt le. grind arith;
  fits = λ i lt. omega arith;
  reads = λ i lt. refl;
  all = λ v q lt e. (0, omega arith, omega arith);
}

module _ (name : List ℕ) where
  abbrev meant : ℕ → PieceKind → Meaning
  meant number kind = meaning_of (record { number = number; name = name; kind = kind_of kind })

  source_duties : (p : SrcPiece) → Duties (meant p.number (Src p))
  source_duties p = record {
    source = λ rate e. let same = same_Some p.rate rate e in record {
      range = grind arith;
      has_no_rows = refl;
      no_field = refl;
      no_gate = refl;
      no_marks = (refl, refl);
    };
    count = λ e. grind arith;
    each = λ i r e. grind arith;
    rising = λ i j r s lt e g. grind arith;
    fitting = λ place e. grind arith;
    single = λ e. grind arith;
    bit = λ place e. grind arith;
    band = grind arith;
  }

  gate_duties : (p : GatePiece) → Duties (meant p.number (Gate p))
  gate_duties p = counted_duties (meant p.number (Gate p)) (only_counts p.parent 1 1) refl (record {
    no_source = refl;
    range = grind arith;
    each = λ i lt. record { times = grind arith; over = grind arith; below = p.below };
    single = λ _. (only_row p.parent 1 1 0, refl, refl);
    bit = λ place e. grind (arith, p.single);
    band = grind arith;
  })

  fixed_duties : (p : FixPiece) → Duties (meant p.number (Fix p))
  fixed_duties p = counted_duties (meant p.number (Fix p)) (only_counts p.parent p.n p.d) refl (record {
    no_source = refl;
    range = grind arith;
    each = λ i lt. record { times = grind arith; over = grind arith; below = p.below };
    single = λ _. (only_row p.parent p.n p.d 0, refl, refl);
    bit = λ place e. grind arith;
    band = grind arith;
  })

  divider_duties : (p : DivPiece) → Duties (meant p.number (Div p))
  divider_duties p =
      let range = divider_count_range p.style p.field.width p.wide p.narrow in
      counted_duties (meant p.number (Div p)) (divider_own_counts p) refl (record {
        no_source = refl;
        range = (range.0, omega (arith, range.1));
        each = λ i lt. record { times = (omega arith, omega arith); over = (omega arith, omega (arith, range.1)); below = p.below };
        single = λ e. grind arith;
        bit = λ place e. grind arith;
        band = grind arith;
      })

  mux_duties : (p : MuxPiece) → Duties (meant p.number (Mux p))
  mux_duties p =
      let some = p.some in
      let few = few_listed p.parents in
      counted_duties (meant p.number (Mux p)) (mux_own_counts p) refl (record {
        no_source = refl;
        range = grind arith;
        each = λ i lt. record { times = grind arith; over = grind arith; below = p.below i lt };
        single = λ e. grind arith;
        bit = λ place e. grind arith;
        band = grind arith;
      })

  pll_duties : (p : PllPiece) → Duties (meant p.number (Pll p))
  pll_duties p =
      let high : 2 ^ p.nw ≤ 256 = pow_mono p.nshort in
      let low : 2 ^ p.dw ≤ 64 = pow_mono p.dshort in
      let order = p.order in
      let fits = p.fits in
      counted_duties (meant p.number (Pll p)) (pll_own_counts p) refl (record {
        no_source = refl;
        range = pll_count_range p.nw p.dw p.nwide p.nshort p.dwide p.dshort;
        each = λ i lt. record {
          times = (omega arith, omega (arith, n_lt p.parent p.nw p.dw p.dwide i lt));
          over = (omega arith, omega (arith, d_lt p.parent p.nw p.dw p.dwide i));
          below = p.below;
        };
        single = λ e. grind arith;
        bit = λ place e. grind arith;
        band = (order, omega arith);
      })

  pub kind_duties : (kind : PieceKind) → Duties (meant (number_of kind) kind)
  kind_duties (Src p) = source_duties p
  kind_duties (Gate p) = gate_duties p
  kind_duties (Fix p) = fixed_duties p
  kind_duties (Div p) = divider_duties p
  kind_duties (Mux p) = mux_duties p
  kind_duties (Pll p) = pll_duties p
