-- A word of a text by its place: where it starts, and that it stands there. Assumes nothing.
use Prim.Native.Nat.{ℕ, zero, suc, ◌+◌, ◌-◌, ◌≤◌, ◌<◌}
use mathlib.Core.Path.{◌≡◌, refl, sym, ap, ◌∙◌}
use mathlib.Core.List.{List, [], ◌∷◌, map}
use native.Mathlib.Omega.{arith}
use lib.ListN.{length, get_or, take, drop, length-drop, get_or-eq_default, get_or-map}
use lib.Seq.{length-take-le, get_or-take, drop-drop}
use Rattle.base.specs.Text.{bytes}
use Rattle.base.specs.Wrote.{Wrote}
use Rattle.base.proofs.Rest.{rest_at, rest_end}
use Rattle.base.proofs.Writes.{wrote_as, wrote_nothing}
use Rattle.words.specs.Find.{words_of, room_of}
use Rattle.names.specs.declared.ValueList.{ValueList}
use Rattle.names.specs.Names.{names_of}
use Rattle.word_texts.specs.Words.{word_at, name_text}

-- ---- the start: `at` bytes are passed, with i words

module _ (lengths : List ℕ) (at i : ℕ) (X : ℕ) (inv : at + room_of (drop i lengths) ≡ X) where
  pub start-next : {n : ℕ} → n ≡ get_or lengths i 0 → i < length lengths
      → at + (n + 1) + room_of (drop (i + 1) lengths) ≡ X
  unfolding room_of
  start-next {n} e b = let h = rw (rest_at lengths i b) at inv in omega (arith, h, e)

  pub start_is : length lengths ≤ i → at ≡ X
  unfolding room_of
  start_is b = let h = rw (rest_end lengths i b) at inv in omega (arith, h)

pub ruleset start_steps = (start-next, start_is)

-- ---- the word

room-some : (lengths : List ℕ) → 0 < length lengths → 1 ≤ room_of lengths
unfolding room_of
room-some [] h = absurd (omega arith)
room-some (n ∷ lengths) h = omega arith

-- it lies inside the text, and is the word
record Stands (words lengths : List ℕ) (place : ℕ) : Type 0 where
  pub inside : room_of (take place lengths) + get_or lengths place 0 ≤ length words
  pub is : take (get_or lengths place 0) (drop (room_of (take place lengths)) words)
      ≡ get_or (words_of words lengths) place []

stands : (words lengths : List ℕ) (place : ℕ) → place < length lengths → room_of lengths ≤ length words + 1
    → Stands words lengths place
unfolding room_of words_of
stands words [] place h r = absurd (omega arith)
stands words (n ∷ lengths) zero h r = record { inside = omega (arith, r); is = refl }
stands words (n ∷ lengths) (suc place) h r =
    let some = room-some lengths (omega arith) in
    let l = length-drop (n + 1) words in
    let s = stands (drop (n + 1) words) lengths place (omega arith) (omega (arith, r, some, l)) in
    record {
      inside = omega (arith, s.inside, l, r, some);
      is =
          ap (take (get_or lengths place 0)) (sym (drop-drop (room_of (take place lengths)) (n + 1) words)) ∙ s.is;
    }

module _ (words lengths : List ℕ) (place : ℕ) (b : place < length lengths) (r : room_of lengths ≤ length words + 1)
    {start n : ℕ} (s : start ≡ room_of (take place lengths)) (e : n ≡ get_or lengths place 0) where
  pub word-inside : start + n ≤ length words
  word-inside = omega (arith, (stands words lengths place b r).inside, s, e)

  word_stands : take (start + n - start) (drop start words) ≡ word_at words lengths place
  unfolding word_at
  word_stands = let z : start + n - start ≡ n = omega arith in
      rw (z, e, s) (stands words lengths place b r).is

  pub word_room : (at k : ℕ) → at + length (word_at words lengths place) ≤ k
      → at + length (take (start + n - start) (drop start words)) ≤ k
  word_room at k h = omega (arith, h, ap length word_stands)

  pub word-put : {old new : List ℕ} {at next : ℕ} → Wrote old at (take (start + n - start) (drop start words)) new next
      → Wrote old at (word_at words lengths place) new next
  word-put x = wrote_as word_stands x

-- past the last there is none
as_many : (words lengths : List ℕ) → length (words_of words lengths) ≡ length lengths
unfolding words_of
as_many words [] = refl
as_many words (n ∷ lengths) = ap suc (as_many (drop (n + 1) words) lengths)

pub none-put : (words lengths : List ℕ) (place : ℕ) → length lengths ≤ place → (l : List ℕ) (at : ℕ)
    → Wrote l at (word_at words lengths place) l at
unfolding word_at
none-put words lengths place b l at =
    wrote_as (sym (get_or-eq_default (words_of words lengths) [] (omega (arith, as_many words lengths))))
    (wrote_nothing l at)

pub ruleset put_steps = (word-inside, word_room, word-put, none-put)

-- ---- the words of a list of names

module _ (names : ValueList) (place : ℕ) {list : ValueList} (words lengths : List ℕ) (e : names ≡ list)
    (w : words_of words lengths ≡ map bytes (names_of list)) where
  name-is : word_at words lengths place ≡ name_text names place
  unfolding word_at name_text
  name-is = rw (w, e) (get_or-map bytes (names_of list) place "")

  pub name-room : (at n : ℕ) → at + length (name_text names place) ≤ n → at + length (word_at words lengths place) ≤ n
  name-room at n h = omega (arith, h, ap length name-is)

  pub name-put : {old new : List ℕ} {at next : ℕ} → Wrote old at (word_at words lengths place) new next
      → Wrote old at (name_text names place) new next
  name-put x = wrote_as name-is x

pub ruleset name_steps = (name-room, name-put)
