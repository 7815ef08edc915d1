-- The calls that write what a file's farm has do what the rules ask: the first refusal, or the very view of the herd or
-- of the farm, or the totals, or that a file would be too long; and so what the program prints. Assumes nothing.
use Rattle.std.specs.Prelude.{Ok}
use Prim.Native.Nat.{ℕ, ◌-◌, ◌<◌}
use mathlib.Core.Path.{◌≡◌, refl, ap, ◌∙◌}
use mathlib.Core.List.{List, ◌++◌, map}
use native.Mathlib.Nat.{zero-add}
use native.Mathlib.Omega.{arith}
use borrow.Author.Tests.{lt-ltb, le-ltb, le-leb, lt-leb}
use lib.ListN.{length, get_or, replicate}
use Rattle.base.specs.Wrote.{Wrote}
use Rattle.base.specs.Refused.{refuse}
use Rattle.farm.specs.declared.Herd.{Herd}
use Rattle.farm.specs.declared.Farm.{Farm}
use Rattle.farm.specs.declared.Refusal.{Refusal}
use Rattle.farm.specs.declared.Refusal.TheVariants.{FileTooLong}
use Rattle.farm.specs.Refusals.{number}
use Rattle.farm.specs.Limits.{herds_most}
use Rattle.farm.specs.Herds.{no_herd}
use Rattle.farm.specs.Answers.{Accepted}
use Rattle.checks.specs.Checks.{herds_of, check_farm}
use Rattle.limits.specs.declared.Source.{Source}
use Rattle.limits.specs.declared.Source.TheVariants.{Cooperative}
use Rattle.limits.specs.Limits.{cooperative_bytes, limits_of}
use Rattle.reader.specs.Files.{read_of, accepted, refused}
use Rattle.rules_theorems.specs.Rules.{allowed, farm_of, KeepsRules}
use Rattle.rules_theorems.specs.Refusals.{First}
use Rattle.rules_theorems.proofs.Farms.{herds-of}
use Rattle.rules_theorems.proofs.Accepts.{accepts-exactly}
use Rattle.rules_theorems.proofs.Passing.{accepted-passes}
use Rattle.rules_theorems.proofs.Refuses.{first-refusal}
use Rattle.outputs.specs.Grams.{totals_of}
use Rattle.model.specs.Answers.{herd_figures, farm_answer}
use Rattle.written.specs.Answer.{leaves, answers, Written}
use Rattle.refusal_line.specs.Lines.{refusal_line}
use Rattle.listing.specs.Listing.{totals_listing}
use Rattle.lines_figures.specs.Lines.{farm_listing}
use Rattle.views.specs.declared.View.{View}
use Rattle.views.specs.declared.View.TheVariants.{Figures, Notes, Cuts, Reasons, Sentences, File}
use Rattle.views.specs.declared.Output.{Output}
use Rattle.file_length.specs.Limit.{file_checked}
use Rattle.views.specs.Views.{herd_text, viewed, view_checked}
use Rattle.views.specs.Program.{output_of, PutOutput}
use Rattle.contracts.proofs.RecordSteps.{farm_figured}
use Rattle.contracts.specs.Listings.{Call, Called, text_at, file_herd_call, file_totals_call, file_call}
use Rattle.contracts.specs.Files.{FileCall, of_herd, of_totals, of_all, call_of, At, here, there}
use Rattle.contracts.specs.Files.{totals_text, view_text, InLimit, Lists, the_herd, past_the_last, the_totals}
use Rattle.contracts.specs.Files.{the_whole, Passes, the_file, ByTheRules, Prints, the_refusal, the_view}
use Rattle.contracts.specs.Files.{too_long}

-- ---- the herd at a place

pub at-inside : {hs : List Herd} {i : ℕ} {h : Herd} → At hs i h → i < length hs
at-inside here = omega arith
at-inside (there a) = omega (arith, at-inside a)

pub at-is : {hs : List Herd} {i : ℕ} {h : Herd} → At hs i h → (rest : List Herd) (d : Herd)
    → get_or (hs ++ rest) i d ≡ h
at-is here rest d = refl
at-is (there a) rest d = at-is a rest d

-- ---- what a view lists of a farm that the checks accept, by its herds

pub viewed-is : (v : View) (f : Farm) → check_farm f ≡ Accepted → viewed v f ≡ view_text v (herds_of f)
unfolding viewed farm_listing herd_text
viewed-is Figures f e = rw (farm_figured f e)
viewed-is Notes f e = refl
viewed-is Cuts f e = refl
viewed-is Reasons f e = refl
viewed-is Sentences f e = refl
viewed-is File f e = refl

-- ---- a view within its limit, or beyond it

pub in_limit : (v : View) (f : Farm) → InLimit v (viewed v f) → view_checked v f ≡ Accepted
unfolding view_checked file_checked allowed
in_limit Figures f h = refl
in_limit Notes f h = refl
in_limit Cuts f h = refl
in_limit Reasons f h = refl
in_limit Sentences f h = refl
in_limit File f h = rw (le-ltb cooperative_bytes (length (viewed File f)) (h refl))

pub beyond : (f : Farm) → (allowed Cooperative).bytes < length (viewed File f)
    → view_checked File f ≡ refuse FileTooLong 0
unfolding view_checked file_checked allowed
beyond f h = rw (lt-ltb cooperative_bytes (length (viewed File f)) h)

-- ---- a file that keeps the rules

abbrev writes : List ℕ → Call
writes l = record { checked = Accepted; listing = l }

module _ (source : Source) {s : List ℕ} {f : Farm} (k : KeepsRules (allowed source) s f) where
  abbrev hs : List Herd
  hs = k.says.herds

  abbrev pub places : List Herd
  places = replicate (herds_most - length hs) no_herd

  pub read_as : read_of (limits_of source) s ≡ accepted (farm_of hs)
  read_as = (accepts-exactly source s f).1 k ∙ ap accepted k.says.is

  herd-listed : (v : View) {i : ℕ} {h : Herd} → At hs i h → text_at v (farm_of hs) i ≡ herd_text v h
  herd-listed v {i} a = rw (lt-ltb i (length hs) (at-inside a)) (ap (herd_text v) (at-is a places no_herd))

  totals-are : totals_listing (farm_answer (farm_of hs)).totals ≡ totals_text hs
  totals-are =
      let figured = farm_figured (farm_of hs) (accepted-passes source s (farm_of hs) read_as) in
      ap totals_listing (figured ∙ ap (λ (l : List Herd). totals_of (map herd_figures l)) (herds-of hs))

  view_is : (v : View) → viewed v (farm_of hs) ≡ view_text v hs
  view_is v = viewed-is v (farm_of hs) (accepted-passes source s (farm_of hs) read_as) ∙ ap (view_text v) (herds-of hs)

  within : (v : View) → InLimit v (view_text v hs) → view_checked v (farm_of hs) ≡ Accepted
  within v h = in_limit v (farm_of hs) (rw (view_is v) h)

  over : (allowed Cooperative).bytes < length (view_text File hs)
      → view_checked File (farm_of hs) ≡ refuse FileTooLong 0
  over h = beyond (farm_of hs) (rw (view_is File) h)

  -- what the call's contract says of it
  accepting : {c : FileCall} {l : List ℕ} → Lists hs c l → call_of source c s ≡ writes l
  unfolding file_herd_call file_totals_call file_call
  accepting (the_herd {v = v} a) = rw read_as (ap writes (herd-listed v a))
  accepting (past_the_last {i = i} b) = rw (read_as, le-ltb i (length hs) b)
  accepting the_totals = rw read_as (ap writes totals-are)
  accepting (the_whole v h) = rw (read_as, within v h) (ap writes (view_is v))

  passing : {c : FileCall} → Passes hs c → (call_of source c s).checked ≡ refuse FileTooLong 0
  unfolding file_call
  passing (the_file h) = rw read_as (over h)

  pub printed_view : (v : View) → InLimit v (view_text v hs) → output_of source v s ≡ view_text v hs
  unfolding output_of
  printed_view v h = rw (read_as, within v h) (view_is v)

  printed-over : {v : View} → Passes hs (of_all v) → output_of source v s ≡ refusal_line (number FileTooLong) 0
  unfolding output_of
  printed-over (the_file h) = rw (read_as, over h)

-- ---- a file that is refused

module _ (source : Source) {s : List ℕ} {n : ℕ} {refusal : Refusal} (r : First (allowed source) s n refusal) where
  pub read-not : read_of (limits_of source) s ≡ refused n refusal
  read-not = (first-refusal source s n refusal).1 r

  refusing : (c : FileCall) → (call_of source c s).checked ≡ refuse refusal n
  unfolding file_herd_call file_totals_call file_call
  refusing (of_herd v i) = rw read-not
  refusing of_totals = rw read-not
  refusing (of_all v) = rw read-not

  printed-refusal : (v : View) → output_of source v s ≡ refusal_line (number refusal) n
  unfolding output_of
  printed-refusal v = rw read-not

-- ---- the theorems

pub file_call_lem : (source : Source) (s : List ℕ) (c : FileCall) {old new : List ℕ} {r : Written}
    → Called (call_of source c s) old new r
    → ByTheRules source s c old new r
unfolding leaves answers
file_call_lem source s c w =
    record {
      refused = λ x. let e = refusing source x c in (rw e at w.buffer, rw e at w.answer);
      listed = λ k a h.
          let e = accepting source k a in
          let t = le-leb _ _ h in
          (rw (e, t) at w.buffer, rw (e, t) at w.answer);
      too_short = λ k a h.
          let e = accepting source k a in
          let t = lt-leb _ _ h in
          (rw (e, t) at w.buffer, rw (e, t) at w.answer);
      too_long = λ k p. let e = passing source k p in (rw e at w.buffer, rw e at w.answer);
    }

pub file-printed : {source : Source} {s : List ℕ} {v : View} {text old new : List ℕ} {how : Written} {r : Output}
    → Prints source s v text how → PutOutput source v s old new r → Wrote old 0 text new r.length × (r.ended ≡ how)
file-printed {source} {v = v} (the_refusal x) w =
    (rw (printed-refusal source x v) at w.bytes, rw (read-not source x) at w.ended)
file-printed {source} {v = v} (the_view k h) w =
    let b = rw (printed_view source k v h) at w.bytes in
    (b, (rw (read_as source k, within source k v h) at w.ended) ∙ ap Ok (b.past ∙ zero-add _))
file-printed {source} (too_long k (the_file h)) w =
    (rw (printed-over source k (the_file h)) at w.bytes, rw (read_as source k, over source k h) at w.ended)
