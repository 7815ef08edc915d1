-- A file of the grammar has no bare LF, and the CRs that were dropped at the ends of its records come back. Assumes
-- nothing.
use Prim.Native.Nat.{ℕ}
use mathlib.Core.Path.{◌≡◌, refl, sym, ap, ◌∙◌}
use mathlib.Core.Bool.{Bool, true, false, not}
use mathlib.Core.List.{List, [], ◌∷◌, ◌++◌, append_assoc, append-nil}
use lib.Dec.{eqb}
use borrow.Author.Tests.{ne_eqb}
use Rattle.base.specs.Pick.{pick}
use Rattle.base.proofs.Clash.{clash}
use Rattle.grammar.specs.Grammar.{Plain, Inside, FieldOf, RecordOf, FileOf}
use Rattle.spreadsheet.specs.Faults.{cr, lf, quote, last, quotes, even, bare}
use Rattle.spreadsheet.specs.Mended.{mended_from}
use Rattle.spreadsheet.specs.Passed.{passed_of, and_byte}
use Rattle.spreadsheet.proofs.Passing.{passed_and, even_snoc}
use Rattle.mending_theorems.specs.Damaged.{Bared}
use Rattle.mending_theorems.proofs.Bare.{bare-past-cr, not-lf}

-- ---- bytes that mending leaves as they are

abbrev Stays : List ℕ → List ℕ → Type 0
Stays before t = (rest : List ℕ) → mended_from before (t ++ rest) ≡ t ++ mended_from (before ++ t) rest

byte-stays : (before : List ℕ) (b : ℕ) → bare before b ≡ false → Stays before (b ∷ [])
unfolding mended_from
byte-stays before b e rest = rw e

joined-stay : (before t u : List ℕ) → Stays before t → Stays (before ++ t) u → Stays before (t ++ u)
joined-stay before t u p q rest =
    ap (mended_from before) (append_assoc t u rest)
    ∙ p (u ++ rest)
    ∙ ap (λ (l : List ℕ). t ++ l) (q rest)
    ∙ sym (append_assoc t u (mended_from (before ++ t ++ u) rest))
    ∙ ap (λ (l : List ℕ). t ++ u ++ mended_from l rest) (append_assoc before t u)

none_stays : (before : List ℕ) → Stays before []
none_stays before rest = ap (λ (l : List ℕ). mended_from l rest) (sym (append-nil before))

-- ---- outside quotes: even quotes before, and no CR right before

abbrev Outside : List ℕ → Type 0
Outside before = passed_of before ≡ passed_of []

record Goes (before t : List ℕ) : Type 0 where
  stays : Stays before t
  outside : Outside (before ++ t)

go-none : (before : List ℕ) → Outside before → Goes before []
go-none before o = record { stays = none_stays before; outside = ap passed_of (append-nil before) ∙ o }

go_join : (before t u : List ℕ) → Goes before t → Goes (before ++ t) u → Goes before (t ++ u)
go_join before t u p q =
    record {
      stays = joined-stay before t u p.stays q.stays;
      outside = ap passed_of
          (sym (append_assoc before t u)) ∙ q.outside;
    }

go-byte : (before : List ℕ) (b : ℕ) → Outside before → (b ≡ lf → ⊥) → (b ≡ cr → ⊥) → (b ≡ quote → ⊥)
    → Goes before (b ∷ [])
go-byte before b o no_lf no_cr no_quote =
    record {
      stays = byte-stays before b (not-lf before b no_lf);
      outside = sym (passed_and before b) ∙ ap (λ p. and_byte p b) o ∙ rw (ne_eqb b cr no_cr, ne_eqb b quote no_quote);
    }

plain-goes : {t : List ℕ} (before : List ℕ) → Plain t → Outside before → Goes before t
plain-goes before Plain.none o = go-none before o
plain-goes before (Plain.byte {b} {t} x p) o =
    let g = go-byte before b o x.no_lf x.no_cr x.no_quote in
    go_join before (b ∷ []) t g (plain-goes (before ++ (b ∷ [])) p g.outside)

-- ---- inside quotes: odd quotes before

abbrev Odd : List ℕ → Type 0
Odd before = even (quotes before) ≡ false

odd-bare : (before : List ℕ) (b : ℕ) → Odd before → bare before b ≡ false
unfolding bare
odd-bare before b o = rw o (go (eqb b lf) (eqb (last 0 before) cr))
  where
    go : (t u : Bool) → pick t (pick u false false) false ≡ false
    go true true = refl
    go true false = refl
    go false u = refl

record Within (before t : List ℕ) : Type 0 where
  stays : Stays before t
  odd : Odd (before ++ t)

within_join : (before t u : List ℕ) → Within before t → Within (before ++ t) u → Within before (t ++ u)
within_join before t u p q =
    record {
      stays = joined-stay before t u p.stays q.stays;
      odd = ap (λ (l : List ℕ). even (quotes l)) (sym (append_assoc before t u)) ∙ q.odd;
    }

quote-bare : (before : List ℕ) → bare before quote ≡ false
unfolding bare
quote-bare before = refl

inside-within : {t : List ℕ} (before : List ℕ) → Inside t → Odd before → Within before t
inside-within before Inside.none o =
    record { stays = none_stays before; odd = ap (λ (l : List ℕ). even (quotes l)) (append-nil before) ∙ o }
inside-within before (Inside.byte {b} {t} n p) o =
    let w : Within before (b ∷ []) =
    record { stays = byte-stays before b (odd-bare before b o); odd = even_snoc before b ∙ rw (ne_eqb b quote n) o } in
    within_join before (b ∷ []) t w (inside-within (before ++ (b ∷ [])) p w.odd)
inside-within before (Inside.pair {t} p) o =
    let one = before ++ (quote ∷ []) in
    let stay : Stays before (quote ∷ quote ∷ []) =
    joined-stay before (quote ∷ []) (quote ∷ []) (byte-stays before quote (quote-bare before))
    (byte-stays one quote (quote-bare one)) in
    let e : even (quotes one) ≡ true = even_snoc before quote ∙ ap not o in
    let w : Within before (quote ∷ quote ∷ []) =
    record {
      stays = stay;
      odd = ap (λ (l : List ℕ). even (quotes l)) (sym (append_assoc before (quote ∷ []) (quote ∷ [])))
          ∙ even_snoc one quote ∙ ap not e;
    } in
    within_join before (quote ∷ quote ∷ []) t w (inside-within (before ++ (quote ∷ quote ∷ [])) p w.odd)

-- ---- fields and records

field-goes : {c t : List ℕ} (before : List ℕ) → FieldOf c t → Outside before → Goes before t
field-goes before (FieldOf.plain p) o = plain-goes before p o
field-goes before (FieldOf.quoted {c} i) o =
    let one = before ++ (quote ∷ []) in
    let odd : Odd one = even_snoc before quote ∙ ap (λ p. not p.even) o in
    let w = inside-within one i odd in
    let inner = one ++ c in
    let close : Goes inner (quote ∷ []) =
    record {
      stays = byte-stays inner quote (quote-bare inner);
      outside = sym (passed_and inner quote) ∙ rw w.odd;
    } in
    record {
      stays = joined-stay before (quote ∷ []) (c ++ (quote ∷ [])) (byte-stays before quote (quote-bare before))
          (joined-stay one c (quote ∷ []) w.stays close.stays);
      outside = ap passed_of
          (sym (append_assoc before (quote ∷ []) (c ++ (quote ∷ []))) ∙ sym (append_assoc one c (quote ∷ [])))
          ∙ close.outside;
    }

comma-goes : (before : List ℕ) → Outside before → Goes before (44 ∷ [])
unfolding bare
comma-goes before o =
    record { stays = byte-stays before 44 refl; outside = sym (passed_and before 44) ∙ ap (λ p. and_byte p 44) o }

record_goes : {cs : List (List ℕ)} {t : List ℕ} (before : List ℕ) → RecordOf cs t → Outside before → Goes before t
record_goes before (RecordOf.last f) o = field-goes before f o
record_goes before (RecordOf.more {c} {t} {u} f r) o =
    let g = field-goes before f o in
    let h = comma-goes (before ++ t) g.outside in
    let k = record_goes (before ++ t ++ (44 ∷ [])) r h.outside in
    go_join before t (44 ∷ u) g (go_join (before ++ t) (44 ∷ []) u h k)

-- ---- files

past-lf : (before : List ℕ) → even (quotes before) ≡ true → Outside (before ++ (lf ∷ []))
past-lf before e = sym (passed_and before lf) ∙ rw e

module _ (before : List ℕ) (o : Outside before) (d u : List ℕ) where
  even-before : even (quotes before) ≡ true
  even-before = ap (λ p. p.even) o

  end_kept : mended_from (before ++ (cr ∷ []) ++ (lf ∷ [])) d ≡ u → mended_from before (cr ∷ lf ∷ d) ≡ cr ∷ lf ∷ u
  unfolding mended_from
  end_kept h = rw (not-cr, bare-past-cr before lf, h)
    where
      not-cr : bare before cr ≡ false
      not-cr = not-lf before cr (λ e. clash cc)

  end-put : mended_from (before ++ (lf ∷ [])) d ≡ u → mended_from before (lf ∷ d) ≡ cr ∷ lf ∷ u
  unfolding mended_from bare
  end-put h = rw (ap (λ p. p.cr) o, even-before, h)

nothing_left : (before : List ℕ) → mended_from before [] ≡ []
unfolding mended_from
nothing_left before = refl

whole-stays : (before t : List ℕ) → Stays before t → mended_from before t ≡ t
whole-stays before t stays =
    ap (mended_from before) (sym (append-nil t)) ∙ stays [] ∙ ap (λ (l : List ℕ). t ++ l) (nothing_left (before ++ t))
    ∙ append-nil t

pub comes_back : {s d : List ℕ} (before : List ℕ) → Bared s d → Outside before → mended_from before d ≡ s
comes_back before Bared.none o = nothing_left before
comes_back before (Bared.last {t = t} r n) o = whole-stays before t (record_goes before r o).stays
comes_back before (Bared.kept {t = t} {u} {d} r b) o =
    let g = record_goes before r o in
    let past = before ++ t in
    let out : Outside (past ++ (cr ∷ []) ++ (lf ∷ [])) =
    past-lf (past ++ (cr ∷ [])) (even_snoc past cr ∙ even-before past g.outside d u) in
    g.stays (cr ∷ lf ∷ d)
    ∙ ap (λ (l : List ℕ). t ++ l) (end_kept past g.outside d u (comes_back (past ++ (cr ∷ []) ++ (lf ∷ [])) b out))
comes_back before (Bared.dropped {t = t} {u} {d} r b) o =
    let g = record_goes before r o in
    let past = before ++ t in
    g.stays (lf ∷ d)
    ∙ ap (λ (l : List ℕ). t ++ l)
    (end-put past g.outside d u
    (comes_back (past ++ (lf ∷ [])) b (past-lf past (even-before past g.outside d u))))

-- with no CR dropped
pub nothing-dropped : {rs : List (List (List ℕ))} {s : List ℕ} → FileOf rs s → Bared s s
nothing-dropped FileOf.none = Bared.none
nothing-dropped (FileOf.last r n) = Bared.last r n
nothing-dropped (FileOf.more r f) = Bared.kept r (nothing-dropped f)
