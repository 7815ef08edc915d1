-- No ammonia figure is below zero. So the nh3_nlivestock of herds is a sum of whole grams, each herd's own, and herds
-- that come behind never lower it. Assumes nothing.
use Prim.Native.Nat.{ℕ, ◌<◌}
use Prim.Native.String.{String}
use mathlib.Core.Path.{◌≡◌, refl, sym, ◌∙◌}
use mathlib.Core.List.{List, [], ◌∷◌, map}
use native.Mathlib.Omega.{arith}
use Rattle.std.proofs.Common.{zero-le}
use lib.Dec.{le→leb, lt→ltb, ltb→lt}
use lib.IntN.{ℤ, pos, negsuc, nat_abs, ◌+ℤ◌}
use lib.Signed.{◌≤ℤ◌, ◌<ℤ◌, le_z_yes, lt_z_yes}
use lib.ListN.{length, get_or}
use Rattle.base.specs.Each.{none, more}
use Rattle.base.proofs.Each.{each_of}
use Rattle.cut_division.specs.Total.{signed_total}
use Rattle.cut_division.specs.Total as sums
use Rattle.cut_division.proofs.Totals.{add_up-map, pos-total, signed_total-same, signed_total-swap}
use Rattle.amounts.specs.Arithmetic.{cutting}
use Rattle.farm.specs.declared.Herd.{Herd}
use Rattle.typed_inputs.specs.Typed.{typed_of}
use Rattle.outputs.specs.declared.Figures.{Figures}
use Rattle.outputs.specs.Sections.{FiguresIn}
use Rattle.outputs.specs.Names.{totals, total_number, addends}
use Rattle.outputs.specs.Grams.{grams_at, grams_of, total_at, farm_total, totals_of}
use Rattle.outputs.proofs.ByNumber.{by-number-at}
use Rattle.herd.specs.Herd.{figures_in, figures_of}
use Rattle.model.specs.Answers.{herd_figures}
use Rattle.model.specs.Truths.{NotBelowZero}
use Rattle.above_line.specs.Line.{livestock, Passes}

-- 2.1: nh3_nlivestock adds up these three of every herd
abbrev pub ammonia : List String
ammonia = "nh3_nhousing" ∷ "nh3_nyard" ∷ "nh3_ngrazing" ∷ []

from_zero : (x : ℕ) → pos 0 ≤ℤ pos x
from_zero x = le_z_yes (le→leb 0 x zero-le)

not_below : (f : FiguresIn cutting) → NotBelowZero ammonia (record { grams = grams_of f })
not_below f =
    more (from_zero f.housing.nh3_nhousing)
    (more (from_zero f.yard.nh3_nyard)
    (more (from_zero f.grazing.nh3_ngrazing) none))

pub ammonia-not-below-zero : (h : Herd) → NotBelowZero ammonia (herd_figures h)
unfolding figures_of
ammonia-not-below-zero h = not_below (figures_in cutting (typed_of h))

-- ---- a herd's own

abbrev number : ℕ
number = total_number "nh3_nlivestock"

abbrev pub own : Herd → ℤ
own h = total_at (herd_figures h).grams number

unfoldable pub ammonia_of : Herd → ℕ
ammonia_of h = nat_abs (own h)

-- what is not below zero is a whole number, and so are three of them together
whole : (z : ℤ) → pos 0 ≤ℤ z → pos (nat_abs z) ≡ z
whole (pos n) h = refl
whole (negsuc n) h = absurd h.le

three : (a b c : ℤ) → pos 0 ≤ℤ a → pos 0 ≤ℤ b → pos 0 ≤ℤ c → pos 0 ≤ℤ (pos 0 +ℤ a +ℤ b +ℤ c)
three (pos a) (pos b) (pos c) ha hb hc = from_zero _
three (negsuc a) b c ha hb hc = absurd ha.le
three (pos a) (negsuc b) c ha hb hc = absurd hb.le
three (pos a) (pos b) (negsuc c) ha hb hc = absurd hc.le

added : (f : Figures) → NotBelowZero ammonia f → pos 0 ≤ℤ total_at f.grams number
unfolding total_at
added f (more housing (more yard (more grazing none))) = three _ _ _ housing yard grazing

pub own_is : (h : Herd) → own h ≡ pos (ammonia_of h)
unfolding ammonia_of
own_is h = sym (whole (own h) (added (herd_figures h) (ammonia-not-below-zero h)))

-- ---- of all herds

-- herd by herd, or addend by addend
by-herd : (l : List Figures) → farm_total l number ≡ signed_total (λ (f : Figures). total_at f.grams number) l
unfolding farm_total total_at
by-herd l = sym (signed_total-swap (λ (f : Figures) (n : ℕ). grams_at f.grams n) l (get_or addends number []))

pub livestock-is : (hs : List Herd) → livestock hs ≡ pos (sums.total ammonia_of hs)
unfolding livestock totals_of
livestock-is hs =
    by-number-at (farm_total (map herd_figures hs)) (length totals) number (omega arith)
    ∙ by-herd (map herd_figures hs)
    ∙ add_up-map ◌+ℤ◌ (λ (f : Figures). total_at f.grams number) herd_figures (pos 0) hs
    ∙ signed_total-same (each_of own_is hs)
    ∙ sym (pos-total ammonia_of hs)

pub passes_if : (line : ℕ) (hs : List Herd) → line < sums.total ammonia_of hs → Passes line hs
passes_if line hs h = rw (livestock-is hs) (lt_z_yes (lt→ltb line (sums.total ammonia_of hs) h))

pub above_if : (line : ℕ) (hs : List Herd) → Passes line hs → line < sums.total ammonia_of hs
above_if line hs p =
    let q : pos line <ℤ pos (sums.total ammonia_of hs) = rw (livestock-is hs) at p in
    ltb→lt line (sums.total ammonia_of hs) q.lt
