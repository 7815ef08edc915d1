-- The list has the faults and nothing else, and its places rise. Assumes nothing.
use Prim.Native.Nat.{ℕ, ◌+◌, ◌<◌}
use mathlib.Core.Path.{◌≡◌, refl, sym, ap, subst, ◌∙◌}
use mathlib.Core.Bool.{Bool, true, false}
use mathlib.Core.List.{List, [], ◌∷◌, ◌++◌, append-nil}
use native.Mathlib.Omega.{arith}
use lib.ListN.{length, take, drop}
use lib.Seq.{append_snoc}
use Rattle.base.proofs.Clash.{clash}
use Rattle.spreadsheet.specs.Faults.{lf, mark, marked, bare}
use Rattle.spreadsheet.specs.Mended.{Change, kind_of, place_of, change_at, changes_from, text_start, mark_change}
use Rattle.spreadsheet.specs.Mended.{changes_of}
use Rattle.spreadsheet.specs.Mended.Change.{mark_dropped, cr_put}
use Rattle.spreadsheet.proofs.Marks.{marked-take}
use Rattle.mending_theorems.specs.Faultless.{Marked, BareAt, Lists, first, later, Rising, none, one, more}
use Rattle.mending_theorems.proofs.Bare.{bare-is, is-bare}
use Rattle.mending_theorems.proofs.Texts.{so_marked, marked_so, changes-all}
use Rattle.mending_theorems.proofs.Undo.{From, changes-from}

-- a bare LF among the bytes behind others
record BareFrom (before rest : List ℕ) (place : ℕ) : Type 0 where
  passed : List ℕ
  after : List ℕ
  stands : rest ≡ passed ++ (lf ∷ after)
  at : length (before ++ passed) ≡ place
  is : bare (before ++ passed) lf ≡ true

pub none-listed : {c : Change} {cs : List Change} → cs ≡ [] → Lists c cs → ⊥
none-listed e (first d) = clash cc
none-listed e (later l) = clash cc

-- ---- what is listed is bare

listed-from : (before rest : List ℕ) (place : ℕ) → Lists (cr_put place) (changes_from before rest)
    → BareFrom before rest place
unfolding changes_from
listed-from before [] place l = absurd (none-listed refl l)
listed-from before (b ∷ rest) place l = go (bare before b) refl (listed-from (before ++ (b ∷ [])) rest place) l
  where
    Later : Type 0
    Later = Lists (cr_put place) (changes_from (before ++ (b ∷ [])) rest) → BareFrom (before ++ (b ∷ [])) rest place

    deeper : BareFrom (before ++ (b ∷ [])) rest place → BareFrom before (b ∷ rest) place
    deeper r =
        let e = append_snoc before b r.passed in
        record {
          passed = b ∷ r.passed;
          after = r.after;
          stands = ap (λ (x : List ℕ). b ∷ x) r.stands;
          at = ap length (sym e) ∙ r.at;
          is = ap (λ (x : List ℕ). bare x lf) (sym e) ∙ r.is;
        }

    go : (t : Bool) → bare before b ≡ t → Later
        → Lists (cr_put place) (change_at t (length before) ++ changes_from (before ++ (b ∷ [])) rest)
        → BareFrom before (b ∷ rest) place
    go true e l (first d) =
        let k = bare-is before b e in
        record {
          passed = [];
          after = rest;
          stands = ap (λ (x : ℕ). x ∷ rest) k.is-lf;
          at = ap length (append-nil before) ∙ ap place_of d;
          is = ap (λ (x : List ℕ). bare x lf) (append-nil before) ∙ ap (bare before) (sym k.is-lf) ∙ e;
        }
    go true e l (later k) = deeper (l k)
    go false e l k = deeper (l k)

-- ---- what is bare is listed

joined-later : (c : Change) (ds cs : List Change) → Lists c cs → Lists c (ds ++ cs)
joined-later c [] cs l = l
joined-later c (d ∷ ds) cs l = later (joined-later c ds cs l)

bare-listed : (passed before after : List ℕ) → bare (before ++ passed) lf ≡ true
    → Lists (cr_put (length (before ++ passed))) (changes_from before (passed ++ (lf ∷ after)))
unfolding changes_from
bare-listed [] before after e =
    let q : bare before lf ≡ true = ap (λ (x : List ℕ). bare x lf) (sym (append-nil before)) ∙ e in
    rw (q, append-nil before) (first refl)
bare-listed (a ∷ passed) before after e =
    let q = append_snoc before a passed in
    joined-later _ (change_at (bare before a) (length before)) _
    (subst (λ (x : List ℕ). Lists (cr_put (length x)) (changes_from (before ++ (a ∷ [])) (passed ++ (lf ∷ after)))) q
    (bare-listed passed (before ++ (a ∷ [])) after (ap (λ (x : List ℕ). bare x lf) q ∙ e)))

-- ---- of the file

-- a change of one kind is none of the other
apart : {place : ℕ} → cr_put place ≡ mark_dropped → ⊥
apart e = let k = ap kind_of e in absurd (omega arith)

no-mark-from : {n : ℕ} {cs : List Change} → From n cs → Lists mark_dropped cs → ⊥
no-mark-from From.none l = none-listed refl l
no-mark-from (From.put h f) (first e) = apart e
no-mark-from (From.put h f) (later l) = no-mark-from f l

past-mark : (m : Bool) (place : ℕ) (cs : List Change) → Lists (cr_put place) (mark_change m ++ cs)
    → Lists (cr_put place) cs
past-mark true place cs (first e) = absurd (apart (sym e))
past-mark true place cs (later l) = l
past-mark false place cs l = l

pub listed-bare : (s : List ℕ) (place : ℕ) → Lists (cr_put place) (changes_of s) → BareAt s place
listed-bare s place l =
    let r = listed-from [] s place (past-mark (marked s) place (changes_from [] s) (rw (changes-all s) at l)) in
    let k = bare-is r.passed lf r.is in
    record {
      before = r.passed;
      after = r.after;
      stands = r.stands;
      at = r.at;
      no_cr = k.no_cr;
      even_quotes =
          k.even_quotes;
    }

pub bare_in_list : (s : List ℕ) (place : ℕ) → BareAt s place → Lists (cr_put place) (changes_of s)
bare_in_list s place b =
    rw (changes-all s, sym b.at, b.stands)
    (joined-later _ (mark_change (marked (b.before ++ (lf ∷ b.after)))) _
    (bare-listed b.before [] b.after (is-bare b.before b.no_cr b.even_quotes)))

pub listed-marked : (s : List ℕ) → Lists mark_dropped (changes_of s) → Marked s
unfolding changes_of
listed-marked s l = go (marked s) refl l
  where
    go : (m : Bool) → marked s ≡ m
        → Lists mark_dropped (mark_change m ++ changes_from (take (text_start m) s) (drop (text_start m) s)) → Marked s
    go true e k = so_marked s e
    go false e k = absurd (no-mark-from (changes-from [] s) k)

pub marked-listed : (s : List ℕ) → Marked s → Lists mark_dropped (changes_of s)
marked-listed s m = rw (changes-all s, marked_so s m) (first refl)

-- ---- places rise

-- a change at a place before all others
put-before : (c : Change) {n : ℕ} {cs : List Change} → place_of c < n → From n cs → Rising cs → Rising (c ∷ cs)
put-before c h From.none r = one
put-before c h (From.put {q = q} k f) r = more {c = c} {d = cr_put q} (omega arith) r

rising-from : {n : ℕ} {cs : List Change} → From n cs → Rising cs
rising-from From.none = none
rising-from (From.put {q = q} h f) = put-before (cr_put q) (omega arith) f (rising-from f)

pub rising : (s : List ℕ) → Rising (changes_of s)
unfolding changes_of
rising s = go (marked s) refl
  where
    go : (m : Bool) → marked s ≡ m
        → Rising (mark_change m ++ changes_from (take (text_start m) s) (drop (text_start m) s))
    go true e =
        let f = changes-from mark (drop 3 s) in
        rw (marked-take s e) (put-before mark_dropped (omega arith) f (rising-from f))
    go false e = rising-from (changes-from [] s)
