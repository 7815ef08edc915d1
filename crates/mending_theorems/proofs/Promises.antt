-- What is promised of mending (02, W6), for every file. Assumes nothing.
use Rattle.std.specs.Prelude.{Ok, Err}
use Prim.Native.Nat.{ℕ}
use mathlib.Core.Path.{◌≡◌, refl, sym, ap, ◌∙◌}
use mathlib.Core.Logic.{◌↔◌}
use mathlib.Core.Bool.{Bool, true, false}
use mathlib.Core.List.{List, [], ◌∷◌, ◌++◌}
use lib.ListN.{length, drop}
use Rattle.base.specs.Pick.{pick}
use Rattle.base.proofs.Clash.{clash}
use Rattle.base.specs.Refused.{refuse}
use Rattle.farm.specs.declared.Farm.{Farm}
use Rattle.farm.specs.declared.Refusal.{Refusal}
use Rattle.farm.specs.declared.Refusal.TheVariants.{BufferTooShort}
use Rattle.farm.specs.Refusals.{number}
use Rattle.grammar.specs.Grammar.{FileOf}
use Rattle.limits.specs.declared.Source.{Source}
use Rattle.limits.specs.Limits.{limits_of}
use Rattle.reader.specs.Files.{read_of, accepted}
use Rattle.rules_theorems.proofs.Accepts.{accepts-exactly}
use Rattle.spreadsheet.specs.Faults.{mark, marked}
use Rattle.spreadsheet.specs.Mended.{Change, entries, text_start, mark_change, mended_of, changes_of}
use Rattle.spreadsheet.specs.Mended.Change.{mark_dropped, cr_put}
use Rattle.mend.specs.Answer.{room, over, Mends, MendAnswer}
use Rattle.spreadsheet.proofs.Marks.{marked-split}
use Rattle.mending_theorems.specs.Undoing.{undone, made_from, made}
use Rattle.mending_theorems.specs.Faultless.{Marked, TwiceMarked, BareAt, Faultless, Lists, first, Rising}
use Rattle.mending_theorems.specs.Damaged.{Bared}
use Rattle.mending_theorems.proofs.Texts.{marked_so, so_marked, unmarked_mended, marked_mended}
use Rattle.mending_theorems.proofs.Undo.{undo_all, make_all}
use Rattle.mending_theorems.proofs.Exact.{
  none-listed,
  listed-bare,
  bare_in_list,
  listed-marked,
  marked-listed,
  rising,
}
use Rattle.mending_theorems.proofs.Again.{marked_from, marked-after, changes-after}
use Rattle.mending_theorems.proofs.Grammar.{comes_back, nothing-dropped}
use Rattle.mending_theorems.proofs.Accepted.{accepted-unmarked}

-- ---- the list says exactly what was done

-- "Undoing the listed changes gives the old file back"
pub undo_mends : (s : List ℕ) → undone (changes_of s) (mended_of s) ≡ s
undo_mends = undo_all

-- making the listed changes gives the mended file: "changes nothing else"
pub changes-made : (s : List ℕ) → made (changes_of s) s ≡ mended_of s
changes-made = make_all

-- a change is listed exactly where the file has the fault
pub changes-exact : (s : List ℕ) (place : ℕ) → Lists (cr_put place) (changes_of s) ↔ BareAt s place
changes-exact s place = (listed-bare s place, bare_in_list s place)

pub mark-exact : (s : List ℕ) → Lists mark_dropped (changes_of s) ↔ Marked s
mark-exact s = (listed-marked s, marked-listed s)

-- "places rising"
pub changes_rise : (s : List ℕ) → Rising (changes_of s)
changes_rise = rising

-- ---- a file without these faults, and the mended file

-- no change is listed exactly where the file has no fault
pub none-exactly : (s : List ℕ) → (changes_of s ≡ []) ↔ Faultless s
none-exactly s = (faultless, unchanged (changes_of s) refl)
  where
    faultless : changes_of s ≡ [] → Faultless s
    faultless e =
        record {
          no_mark = λ m. none-listed e (marked-listed s m);
          no_bare = λ place b. none-listed e (bare_in_list s place b);
        }

    unchanged : (cs : List Change) → changes_of s ≡ cs → Faultless s → changes_of s ≡ []
    unchanged [] e f = e
    unchanged (mark_dropped ∷ cs) e f = absurd (f.no_mark (listed-marked s (rw e (first refl))))
    unchanged (cr_put place ∷ cs) e f = absurd (f.no_bare place (listed-bare s place (rw e (first refl))))

none_made : (s : List ℕ) → made [] s ≡ s
unfolding made_from
none_made s = refl

pub record Unchanged (s : List ℕ) : Type 0 where
  pub file : mended_of s ≡ s
  pub list : changes_of s ≡ []

-- "a file without these faults comes out identical with an empty list"
pub clean_unchanged : (s : List ℕ) → Faultless s → Unchanged s
clean_unchanged s f =
    let e = (none-exactly s).1 f in
    record { file = sym (make_all s) ∙ ap (λ (cs : List Change). made cs s) e ∙ none_made s; list = e }

-- a second mark, and nothing else, is left
pub second-mark : (s : List ℕ) → Marked (mended_of s) ↔ TwiceMarked s
second-mark s = (λ m. twice (marked s) refl (sym (marked-after s) ∙ marked_so (mended_of s) m), once)
  where
    twice : (m : Bool) → marked s ≡ m → marked (drop (text_start (marked s)) s) ≡ true → TwiceMarked s
    twice true e q =
        record {
          rest = drop 3 (drop 3 s);
          begins = marked-split s e ∙ ap (λ (l : List ℕ). mark ++ l) (marked-split (drop 3 s) (rw e at q));
        }
    twice false e q = clash cc

    once : TwiceMarked s → Marked (mended_of s)
    once t =
        so_marked (mended_of s)
        (ap (λ (l : List ℕ). marked (mended_of l)) t.begins ∙ ap marked (marked_mended (mark ++ t.rest))
        ∙ marked_from mark (mark ++ t.rest)
        ∙ marked_so (mark ++ t.rest) (record { rest = t.rest; begins = refl }))

-- the mended file has none of the faults, unless it began with two marks
pub mended_clean : (s : List ℕ) → (TwiceMarked s → ⊥) → Faultless (mended_of s)
mended_clean s n = (none-exactly (mended_of s)).0 (changes-after s ∙ go (marked (mended_of s)) refl)
  where
    go : (m : Bool) → marked (mended_of s) ≡ m → mark_change m ≡ []
    go true e = absurd (n ((second-mark s).0 (so_marked (mended_of s) e)))
    go false e = refl

-- with two marks it has the second, and no bare LF
pub mended_twice : (s : List ℕ) → TwiceMarked s → changes_of (mended_of s) ≡ mark_dropped ∷ []
mended_twice s t = changes-after s ∙ ap mark_change (marked_so (mended_of s) ((second-mark s).1 t))

-- ---- files that keep RFC 4180

-- a mark put in front, and CRs dropped at the ends of records: the file comes back byte for byte
pub damaged_comes_back : {s d : List ℕ} → Bared s d → mended_of (mark ++ d) ≡ s
damaged_comes_back {s} {d} b = marked_mended d ∙ comes_back mark b refl

-- CRs dropped alone; a file that begins with a mark of its own would lose it
pub bared_comes_back : {s d : List ℕ} → Bared s d → (Marked s → ⊥) → mended_of d ≡ s
bared_comes_back {s} {d} b n = unmarked_mended d (go (marked s) refl) ∙ comes_back [] b refl
  where
    go : (m : Bool) → marked s ≡ m → marked d ≡ false
    go true e = absurd (n (so_marked s e))
    go false e = sym (marked_from [] d) ∙ ap marked (comes_back [] b refl) ∙ e

-- every file of the grammar that begins with no mark stays as it is, and so does every file that is accepted
pub grammar_unchanged : {rs : List (List (List ℕ))} {s : List ℕ} → FileOf rs s → (Marked s → ⊥) → Unchanged s
grammar_unchanged {rs} {s} f n =
    let b = nothing-dropped f in
    let e : mended_of s ≡ s = bared_comes_back b n in
    record { file = e; list = sym (ap changes_of e) ∙ changes-after s ∙ go (marked s) refl e }
  where
    go : (m : Bool) → marked s ≡ m → mended_of s ≡ s → mark_change (marked (mended_of s)) ≡ []
    go true k e = absurd (n (so_marked s k))
    go false k e = ap (λ (l : List ℕ). mark_change (marked l)) e ∙ ap mark_change k

pub accepted-unchanged : (source : Source) (s : List ℕ) (f : Farm) → read_of (limits_of source) s ≡ accepted f
    → Unchanged s
accepted-unchanged source s f e =
    let k = (accepts-exactly source s f).0 e in
    grammar_unchanged k.reads (λ m. clash (no (marked_so s m) (accepted-unmarked s f k)))
  where
    no : marked s ≡ true → marked s ≡ false → ◌≡◌ {A = ℕ} 0 1
    no a b = cc

-- ---- the call

-- what the contract allows is one answer, and one content of both slices
pub one_answer : {s out list o o' l l' : List ℕ} {r r' : MendAnswer} → Mends s out list o l r
    → Mends s out list o' l' r'
    → (o ≡ o') × (l ≡ l') × (r ≡ r')
one_answer a b = (a.file ∙ sym b.file, a.changes ∙ sym b.changes, a.answer ∙ sym b.answer)

pub record AsBefore (out list o l : List ℕ) (refusal : Refusal) (at_record : ℕ) : Type 0 where
  pub file : o ≡ out
  pub changes : l ≡ list
  pub gets_refusal : number refusal ≡ 13
  pub none : at_record ≡ 0

-- a refusal is 13 with record 0, and nothing was written
pub refusal-leaves : {s out list o l : List ℕ} {refusal : Refusal} {at_record : ℕ}
    → Mends s out list o l (refuse refusal at_record)
    → AsBefore out list o l refusal at_record
refusal-leaves {s} {out} {list} {o} {l} {refusal} {at_record} m =
    go (room s out list) m.file m.changes m.answer
  where
    of-refused : MendAnswer → ℕ
    of-refused (Ok (a, b)) = 0
    of-refused (Err refused) = refused.1

    of-refusal : MendAnswer → ℕ
    of-refusal (Ok (a, b)) = 0
    of-refusal (Err refused) = number refused.0

    go : (t : Bool) → o ≡ pick t (over (mended_of s) out) out → l ≡ pick t (over (entries (changes_of s)) list) list
        → ◌≡◌ {A = MendAnswer} (refuse refusal at_record)
        (pick t (Ok (length (mended_of s), length (changes_of s))) (refuse BufferTooShort 0))
        → AsBefore out list o l refusal at_record
    go true e f r = clash cc
    go false e f r = record { file = e; changes = f; gets_refusal = ap of-refusal r; none = ap of-refused r }
