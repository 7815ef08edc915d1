-- A text's words, gone through one after the other, find the name that the text is. Assumes nothing.
use Rattle.std.specs.Prelude.{None, Some}
use Prim.Native.Nat.{ℕ, ◌+◌, ◌-◌, ◌<◌, ◌≤◌}
use Prim.Native.String.{String}
use mathlib.Core.Path.{◌≡◌, refl, sym, ap, ◌∙◌}
use mathlib.Core.Bool.{Bool, true, false}
use mathlib.Core.List.{List, [], ◌∷◌, map}
use native.Mathlib.Omega.{arith}
use lib.ListN.{length, get_or, take, drop}
use lib.Seq.{drop-drop}
use Rattle.base.specs.Pick.{pick}
use Rattle.base.specs.Text.{bytes}
use Rattle.base.specs.Part.{same_bytes}
use Rattle.base.proofs.Rest.{rest_at, rest_end}
use Rattle.words.specs.Find.{first_from, is_name, find_text, words_of, room_of, Found}

-- ---- the words from `at` on have their room in the text

module _ (words lengths : List ℕ) (at i : ℕ) (inv : at + room_of (drop i lengths) ≤ length words + 1)
    (b : i < length lengths) {n : ℕ} (e : n ≡ get_or lengths i 0) where
  pub room_next : at + n + 1 + room_of (drop (i + 1) lengths) ≤ length words + 1
  unfolding room_of
  room_next = let h = rw (rest_at lengths i b) at inv in omega (arith, h, e)

  pub word-inside : at + n ≤ length words
  word-inside = omega (arith, room_next)

pub ruleset room_steps = (room_next, word-inside)

-- ---- the words from `at` on are still to be compared, X is what the whole search finds

module _ (t s lengths : List ℕ) (at i : ℕ) (X : Found)
    (inv : first_from (same_bytes t) i (words_of (drop at s) (drop i lengths)) ≡ X) where
  module _ (b : i < length lengths) {n : ℕ} (e : n ≡ get_or lengths i 0) {r : Bool}
      (w : r ≡ same_bytes t (take (at + n - at) (drop at s))) where
    word_next : pick r (Some i)
        (first_from (same_bytes t) (i + 1) (words_of (drop (at + n + 1) s) (drop (i + 1) lengths)))
        ≡ X
    unfolding first_from words_of
    word_next =
        let y : at + n - at ≡ n = omega arith in
        let z : at + (n + 1) ≡ at + n + 1 = omega arith in
        rw (w, y, ← z, ← drop-drop (n + 1) at s, e) (rw (rest_at lengths i b) at inv)

    pub word-found : r ≡ true → Some i ≡ X
    word-found h = sym (rw h) ∙ word_next

    pub word-other : r ≡ false
        → first_from (same_bytes t) (i + 1) (words_of (drop (at + n + 1) s) (drop (i + 1) lengths)) ≡ X
    word-other h = sym (rw h) ∙ word_next

  pub word_none : length lengths ≤ i → None ≡ X
  unfolding first_from words_of
  word_none b = rw (rest_end lengths i b) at inv

pub ruleset word_steps = (word-found, word-other, word_none)

-- ---- words that are a list's names find the name

find_bytes : (s : List ℕ) (i : ℕ) (names : List String)
    → first_from (same_bytes s) i (map bytes names) ≡ first_from (is_name s) i names
unfolding first_from is_name
find_bytes s i [] = refl
find_bytes s i (n ∷ names) = ap (pick (same_bytes s (bytes n)) (Some i)) (find_bytes s (i + 1) names)

pub words_found : (names : List String) (s words lengths : List ℕ) {r : Found}
    → r ≡ first_from (same_bytes s) 0 (words_of words lengths) → words_of words lengths ≡ map bytes names
    → r ≡ find_text names s
unfolding find_text
words_found names s words lengths h w = rw (h, w) (find_bytes s 0 names)
