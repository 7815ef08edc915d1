-- What the calls that write what a file's farm has are to do, said by the rules that the file keeps or breaks (crate
-- `rules_theorems`) and not by how it is read: the first refusal, or what the view lists of the herds that its records
-- say, or their totals; and where the view is a file that would be too long, refusal 1. proofs/Files.antt shows that
-- the calls do exactly that. To be believed.
use Rattle.std.specs.Prelude.{ℕ, suc, ◌≤◌, ◌<◌, ◌≡◌, List, [], ◌∷◌, ◌++◌, map, length, drop, Ok}
use Rattle.refusal_line.specs.Lines.{refusal_line}
use Rattle.farm.specs.declared.Herd.{Herd}
use Rattle.farm.specs.declared.Farm.{Farm}
use Rattle.farm.specs.declared.Refusal.{Refusal}
use Rattle.farm.specs.declared.Refusal.TheVariants.{FileTooLong, BufferTooShort}
use Rattle.farm.specs.Refusals.{number}
use Rattle.limits.specs.declared.Source.{Source}
use Rattle.limits.specs.declared.Source.TheVariants.{Cooperative}
use Rattle.rules_theorems.specs.Rules.{allowed, KeepsRules}
use Rattle.rules_theorems.specs.Refusals.{First}
use Rattle.typed_inputs.specs.Typed.{typed_of}
use Rattle.outputs.specs.Grams.{totals_of}
use Rattle.herd.specs.Herd.{figures_of}
use Rattle.line_parts.specs.Fields.{each}
use Rattle.listing.specs.Listing.{totals_listing}
use Rattle.views.specs.declared.View.{View}
use Rattle.views.specs.declared.View.TheVariants.{Figures, Notes, Cuts, Reasons, Sentences, File}
use Rattle.views.specs.Views.{herd_text}
use Rattle.contracts.specs.Listings.{Call, file_herd_call, file_totals_call, file_call}
use Rattle.base.specs.Refused.{refuse}
use Rattle.written.specs.Answer.{Written}

-- the calls, each with its contract
pub data FileCall : Type 0 where
  of_herd : View → ℕ → FileCall
  of_totals : FileCall
  of_all : View → FileCall

abbrev pub call_of : Source → FileCall → List ℕ → Call
call_of source (of_herd v i) s = file_herd_call source v s i
call_of source of_totals s = file_totals_call source s
call_of source (of_all v) s = file_call source v s

-- ---- what each writes, of the herds that a file says

-- herd i, from 0 on
pub data At : List Herd → ℕ → Herd → Type 0 where
  here : {h : Herd} {hs : List Herd} → At (h ∷ hs) 0 h
  there : {h other : Herd} {hs : List Herd} {i : ℕ} → At hs i h → At (other ∷ hs) (suc i) h

-- the totals are those of what the formulas give of the herds' inputs
abbrev pub totals_text : List Herd → List ℕ
totals_text hs = totals_listing (totals_of (map (λ h. figures_of (typed_of h)) hs))

-- herd after herd; "then the totals" behind the figures
abbrev pub view_text : View → List Herd → List ℕ
view_text Figures hs = each (herd_text Figures) hs ++ totals_text hs
view_text Notes hs = each (herd_text Notes) hs
view_text Cuts hs = each (herd_text Cuts) hs
view_text Reasons hs = each (herd_text Reasons) hs
view_text Sentences hs = each (herd_text Sentences) hs
view_text File hs = each (herd_text File) hs

-- "the new limit" (02, W12), which a file alone has to keep
abbrev pub InLimit : View → List ℕ → Type 0
InLimit v text = v ≡ File → length text ≤ (allowed Cooperative).bytes

-- "A herd call asked for a herd past the last of an accepted farm has an empty listing"
pub data Lists (hs : List Herd) : FileCall → List ℕ → Type 0 where
  the_herd : {v : View} {i : ℕ} {h : Herd} → At hs i h → Lists hs (of_herd v i) (herd_text v h)
  past_the_last : {v : View} {i : ℕ} → length hs ≤ i → Lists hs (of_herd v i) []
  the_totals : Lists hs of_totals (totals_text hs)
  the_whole : (v : View) → InLimit v (view_text v hs) → Lists hs (of_all v) (view_text v hs)

-- "W5's writer may now pass the new limit"
pub data Passes (hs : List Herd) : FileCall → Type 0 where
  the_file : (allowed Cooperative).bytes < length (view_text File hs) → Passes hs (of_all File)

-- ---- what a call on a file s, from this source, leaves and says

pub record ByTheRules (source : Source) (s : List ℕ) (c : FileCall) (old new : List ℕ) (r : Written) : Type 0 where
  pub refused : {n : ℕ} {refusal : Refusal} → First (allowed source) s n refusal → (new ≡ old) × (r ≡ refuse refusal n)
  pub listed : {f : Farm} {l : List ℕ} (k : KeepsRules (allowed source) s f) → Lists k.says.herds c l
      → length l ≤ length old → (new ≡ l ++ drop (length l) old) × (r ≡ Ok (length l))
  pub too_short : {f : Farm} {l : List ℕ} (k : KeepsRules (allowed source) s f) → Lists k.says.herds c l
      → length old < length l → (new ≡ old) × (r ≡ refuse BufferTooShort 0)
  pub too_long : {f : Farm} (k : KeepsRules (allowed source) s f) → Passes k.says.herds c
      → (new ≡ old) × (r ≡ refuse FileTooLong 0)

-- ---- what a command that asks for this view prints for a file, and how the run ended

pub data Prints (source : Source) (s : List ℕ) (v : View) : List ℕ → Written → Type 0 where
  the_refusal : {n : ℕ} {refusal : Refusal} → First (allowed source) s n refusal
      → Prints source s v (refusal_line (number refusal) n) (refuse refusal n)
  the_view : {f : Farm} (k : KeepsRules (allowed source) s f) → InLimit v (view_text v k.says.herds)
      → Prints source s v (view_text v k.says.herds) (Ok (length (view_text v k.says.herds)))
  too_long : {f : Farm} (k : KeepsRules (allowed source) s f) → Passes k.says.herds (of_all v)
      → Prints source s v (refusal_line (number FileTooLong) 0) (refuse FileTooLong 0)
