-- 02, W5: "Reading it back gives the same farm (same kinds, labels and inputs)", of what the call wrote from a slice of
-- herds and a count. Assumes nothing.
use Rattle.std.specs.Prelude.{Ok, Err}
use Prim.Native.Nat.{ℕ, ◌≤◌}
use mathlib.Core.Path.{◌≡◌, refl, sym, ◌∙◌}
use mathlib.Core.Bool.{Bool, true, false}
use mathlib.Core.List.{List, map}
use borrow.Author.Tests.{ltb-false, leb-true}
use lib.Dec.{leb, ltb}
use lib.ListN.{length, drop, take}
use lib.Seq.{take_at}
use Rattle.base.specs.Each.{Each}
use Rattle.base.specs.Pick.{pick}
use Rattle.base.proofs.Clash.{clash}
use Rattle.base.specs.Refused.{refuse}
use Rattle.farm.specs.declared.Herd.{Herd}
use Rattle.farm.specs.declared.Farm.{Farm}
use Rattle.farm.specs.declared.Refusal.TheVariants.{FileTooLong, BufferTooShort}
use Rattle.farm.specs.Answers.{Accepted, Checked}
use Rattle.checks.specs.Checks.{herds_of, check_farm}
use Rattle.checks.proofs.Accepts.{farm-count}
use Rattle.lent.specs.Laid.{farm_in}
use Rattle.lent.proofs.Loaded.{loaded_herds}
use Rattle.farm_calls.proofs.Refusals.{in_accepted, accepted-within}
use Rattle.limits.specs.declared.Source.TheVariants.{Cooperative}
use Rattle.limits.specs.Limits.{cooperative_bytes, limits_of}
use Rattle.reader.specs.Files.{read_of, accepted}
use Rattle.rules_theorems.specs.Rules.{allowed, farm_of}
use Rattle.rules_theorems.proofs.Allowed.{as-allowed, allowed-fit}
use Rattle.written.specs.Answer.{answers, Written}
use Rattle.file_text.specs.Files.{file_of}
use Rattle.file_length.specs.Limit.{file_checked}
use Rattle.written_theorems.specs.Alike.{AlikeHerds, said, HasRoom}
use Rattle.written_theorems.proofs.Farms as writing
use Rattle.views.specs.declared.View.TheVariants.{File}
use Rattle.views.specs.Views.{herd_text, viewed, view_checked, checked_for}
use Rattle.contracts.specs.Listings.{Called, answer_of, farm_call}
use Rattle.contracts.specs.Files.{view_text}
use Rattle.lent_view.specs.Views.{view_in, Fine}
use Rattle.lent_view.proofs.Views.{passes, text-is, is-fine, view_in_lem}

-- the herds that are read again: those of the slice, with nothing behind a label's length and a kind's inputs
abbrev pub again : List Herd → ℕ → List Herd
again herds count = map said (take count herds)

module _ (herds : List Herd) (count : ℕ) (roomy : Each HasRoom (take count herds)) where
  abbrev f : Farm
  f = farm_in herds count

  abbrev text : List ℕ
  text = view_text File (take count herds)

  module _ (none : Fine herds count) (short : length text ≤ (allowed Cooperative).bytes) where
    passed : check_farm f ≡ Accepted
    passed = passes File herds count none

    its_herds : herds_of f ≡ take count herds
    its_herds = let w = accepted-within herds count passed in loaded_herds herds count w.0 w.1

    few : f.count ≤ (allowed Cooperative).herds
    unfolding allowed
    few = farm-count f passed

    short' : length (file_of (herds_of f)) ≤ (allowed Cooperative).bytes
    unfolding file_of herd_text
    short' = rw its_herds short

    -- the file is read as the farm that says the same and nothing else
    pub file-read-again : read_of (limits_of Cooperative) text ≡ accepted (farm_of (again herds count))
    unfolding file_of herd_text
    file-read-again =
        let fit = allowed-fit Cooperative in
        let w = writing.written_read (allowed Cooperative) f passed (rw its_herds roomy) few short' fit in
        rw (as-allowed Cooperative) (rw its_herds at w)

    -- and that farm is alike
    pub read-again-alike : AlikeHerds (take count herds) (herds_of (farm_of (again herds count)))
    read-again-alike = rw its_herds at (writing.same-farm f passed (rw its_herds roomy))

  -- So of every call that says a length: what stands in the buffer up to there is such a file.
  module _ {old new : List ℕ} {r : Written} (w : Called (view_in File herds count) old new r) (n : ℕ)
      (e : r ≡ Ok n) where
    abbrev listing : List ℕ
    listing = viewed File f

    by_checks : (k : Checked) → check_farm f ≡ k → answer_of (checked_for File k f) listing old ≡ Ok n
        → check_farm f ≡ Accepted
    by_checks Accepted q x = q
    by_checks (Err refused) q x = clash cc

    found : Fine herds count
    unfolding view_in farm_call
    found = (in_accepted herds count).0 (by_checks (check_farm f) refl (sym w.answer ∙ e))

    by-limit : (t : Bool) → ltb cooperative_bytes (length listing) ≡ t
        → answer_of (pick t (refuse FileTooLong 0) Accepted) listing old ≡ Ok n
        → length listing ≤ cooperative_bytes
    by-limit true q x = clash cc
    by-limit false q x = ltb-false cooperative_bytes (length listing) q

    within : length text ≤ (allowed Cooperative).bytes
    unfolding view_in farm_call view_checked file_checked allowed
    within =
        let said' : answer_of (view_checked File f) listing old ≡ Ok n =
        rw (passes File herds count found) at (sym w.answer ∙ e) in
        rw (← text-is File herds count found)
        (by-limit (ltb cooperative_bytes (length listing)) refl said')

    by-room : (t : Bool) → leb (length text) (length old) ≡ t
        → pick t (Ok (length text)) (refuse BufferTooShort 0) ≡ Ok n → length text ≤ length old
    by-room true q x = leb-true (length text) (length old) q
    by-room false q x = clash cc

    fits : length text ≤ length old
    unfolding answers
    fits =
        let said' = rw (is-fine File herds count found (λ same. within)) at w.answer in
        by-room (leb (length text) (length old)) refl (sym said' ∙ e)

    pub read_back : read_of (limits_of Cooperative) (take n new) ≡ accepted (farm_of (again herds count))
    read_back =
        let l = (view_in_lem File herds count w).listed found (λ same. within) fits in
        let long : Ok (length text) ≡ Ok n = sym l.1 ∙ e in
        let at : length text ≡ n = cc in
        rw (l.0, take_at text (drop (length text) old) n at) (file-read-again found within)
