-- The steps of the code that adds up herd by herd, each in the form that a place of it wants: a herd's own ammonia, and
-- the loop, which keeps that no beginning so far passes the line. Assumes nothing.
use Prim.Native.Nat.{ℕ, ◌+◌, ◌*◌, ◌≤◌, ◌<◌}
use mathlib.Core.Path.{◌≡◌, refl, sym, ap, subst, ◌∙◌}
use mathlib.Core.List.{List, [], ◌∷◌}
use native.Mathlib.Omega.{arith}
use lib.ListN.{length, get_or, take, length-take}
use lib.Seq.{get_or-take}
use lib.IntN.{ℤ, pos, nat_abs, ◌+ℤ◌}
use mir.Syntax.{w64}
use mir.Val.{Fits}
use Rattle.cut_division.specs.Total as sums
use Rattle.cut_division.proofs.Signed.{abs_add}
use Rattle.farm.specs.Limits.{herds_most}
use Rattle.farm.specs.declared.Herd.{Herd}
use Rattle.farm.specs.declared.Farm.{Farm}
use Rattle.farm.specs.Answers.{Accepted}
use Rattle.checks.specs.Checks.{check_farm, herds_of}
use Rattle.checks.proofs.Accepts.{farm-count}
use Rattle.kinds.specs.declared.Inputs.{Inputs}
use Rattle.kinds.specs.Sound.{Sound}
use Rattle.typed_inputs.specs.Typed.{typed_of}
use Rattle.typed_inputs.proofs.Sound.{herd-sound}
use Rattle.outputs.specs.declared.Figures.{Figures}
use Rattle.outputs.specs.Grams.{GramsTo, figure_most, grams_at, total_at}
use Rattle.outputs.proofs.Adding.{widen}
use Rattle.outputs.specs.Names.{number, total_number}
use Rattle.herd.specs.Herd.{figures_of}
use Rattle.herd.proofs.Bounds.{most, figures-to}
use Rattle.above_line.specs.declared.Above.TheVariants.{Yes, No}
use Rattle.above_line.specs.Line.{Says, yes, no}
use Rattle.above_line.specs.Adding.{own_most, Own}
use Rattle.above_line.proofs.Ammonia.{ammonia_of, livestock-is, passes_if}
use Rattle.above_line.proofs.Beginnings.{one_more}
use Rattle.above_line.proofs.Promises.{NoneBelow, none-next, none_at_all}

-- ---- a herd's own

at_most : (a b c : ℤ) → nat_abs a ≤ most → nat_abs b ≤ most → nat_abs c ≤ most
    → nat_abs (pos 0 +ℤ a +ℤ b +ℤ c) ≤ own_most
at_most a b c ha hb hc =
    omega (arith, abs_add (pos 0) a, abs_add (pos 0 +ℤ a) b, abs_add (pos 0 +ℤ a +ℤ b) c)

own-most : (g : List ℤ) → GramsTo most g → nat_abs (total_at g (total_number "nh3_nlivestock")) ≤ own_most
unfolding total_at
own-most g to =
    at_most (grams_at g (number "nh3_nhousing")) (grams_at g (number "nh3_nyard")) (grams_at g (number "nh3_ngrazing"))
    (to.most _) (to.most _) (to.most _)

module _ (h : Herd) (sound : Sound (typed_of h)) (t : Inputs) (et : t ≡ typed_of h) where
  pub own-sound : Sound t
  own-sound = rw et sound

  module _ (f : Figures) (ef : f ≡ figures_of t) where
    to-most : GramsTo most f.grams
    to-most = rw ef (figures-to t own-sound)

    pub own-asks : GramsTo figure_most f.grams
    own-asks = widen most figure_most to-most (omega arith)

    pub own-gave : (g : ℤ) (r : ℕ) → g ≡ total_at f.grams (total_number "nh3_nlivestock") → r ≡ nat_abs g → Own h r
    unfolding ammonia_of
    own-gave g r eg er =
        let is-own : r ≡ ammonia_of h = er ∙ ap nat_abs eg ∙ rw (ef, et) in
        let one : r ≡ sums.total ammonia_of (h ∷ []) = omega arith in
        record {
          is = ap pos one ∙ sym (livestock-is (h ∷ []));
          small = rw (er, eg) (own-most f.grams to-most);
        }

pub ruleset own_steps = (own-sound, own-asks, own-gave)

-- ---- i herds were added up, and no beginning so far passes the line

pub record Below (line : ℕ) (f : Farm) (i sum : ℕ) : Type 0 where
  pub room : f.count ≤ herds_most
  pub within : i ≤ f.count
  pub is : sum ≡ sums.total ammonia_of (take i (herds_of f))
  pub small : sum ≤ i * own_most
  pub none : NoneBelow line (herds_of f) (i + 1)

module _ (line : ℕ) (f : Farm) (accepted : check_farm f ≡ Accepted) where
  pub below-starts : Below line f 0 0
  below-starts =
      record {
        room = farm-count f accepted;
        within = omega arith;
        is = refl;
        small = omega arith;
        none = none-next line (herds_of f) 0 (omega arith) (λ j h. absurd (omega arith));
      }

  module _ (long : length f.herds ≡ herds_most) (i sum : ℕ) (inv : Below line f i sum) where
    how_many : length (herds_of f) ≡ f.count
    how_many = omega (arith, length-take f.count f.herds, inv.room)

    pub below-ends : f.count ≤ i → Says line (herds_of f) (No f.count)
    below-ends b =
        subst (λ (n : ℕ). Says line (herds_of f) (No n)) how_many
        (no (none_at_all line (herds_of f) (i + 1) (omega (arith, how_many)) inv.none))

    module _ (b : i < f.count) (d : Herd) where
      pub next-sound : Sound (typed_of (get_or f.herds i d))
      next-sound = herd-sound f accepted long i b d

      module _ (r : ℕ) (own : Own (get_or f.herds i d) r) where
        own-grams : r ≡ ammonia_of (get_or f.herds i d)
        own-grams = ap nat_abs (own.is ∙ livestock-is (get_or f.herds i d ∷ [])) ∙ omega arith

        next-sum : sum + r ≡ sums.total ammonia_of (take (i + 1) (herds_of f))
        next-sum =
            let j : i < length (herds_of f) = omega (arith, how_many) in
            let same : ammonia_of (get_or (herds_of f) i d) ≡ ammonia_of (get_or f.herds i d) =
            ap ammonia_of (get_or-take f.count f.herds i d b) in
            omega (arith, inv.is, own-grams, same, one_more ammonia_of (herds_of f) i d j)

        pub sum_fits : Fits w64 (sum + r)
        sum_fits = record { fits = omega (arith, inv.small, own.small, inv.room) }

        pub stops : line < sum + r → Says line (herds_of f) (Yes (i + 1))
        stops h =
            yes {n = i + 1} (record {
              among = omega (arith, how_many);
              passes = passes_if line (take (i + 1) (herds_of f)) (omega (arith, next-sum));
              no_shorter = inv.none;
            })

        pub goes_on : sum + r ≤ line → Below line f (i + 1) (sum + r)
        goes_on h =
            record {
              room = inv.room;
              within = omega arith;
              is = next-sum;
              small = omega (arith, inv.small, own.small);
              none = none-next line (herds_of f) (i + 1) (omega (arith, next-sum)) inv.none;
            }

pub ruleset line_steps = (below-starts, below-ends, next-sound, sum_fits, stops, goes_on)
