-- What a shell takes a text for, in the words of bash's manual ("QUOTING"): outside quotes a byte that means nothing to
-- it stands for itself, and so does one behind a backslash; between single quotes every byte but a quote does; between
-- $' and ' every byte but a quote and a backslash does, and a backslash and three octal digits are a byte. The form
-- says where the shell is: outside quotes, between single quotes, or between $' and '. To be believed.
use Rattle.std.specs.Prelude.{ℕ, ◌+◌, ◌*◌, ◌≤◌, ◌≡◌, true, List, [], ◌∷◌}
use Rattle.shown_bytes.specs.declared.Form.{Form}
use Rattle.shown_bytes.specs.declared.Form.TheVariants.{Plain, Quoted, Escaped}
use Rattle.shown_bytes.specs.Shown.{harmless, letter}

-- the text t, from there to its end, and the bytes w that it stands for
pub data Reads : Form → List ℕ → List ℕ → Type 0 where
  end : Reads Plain [] []
  plain : {b : ℕ} {t w : List ℕ} → harmless b ≡ true → Reads Plain t w → Reads Plain (b ∷ t) (b ∷ w)
  two : {f : Form} {b c : ℕ} {t w : List ℕ} → letter b c ≡ true → Reads f t w → Reads f (b ∷ c ∷ t) (b ∷ c ∷ w)
  behind_backslash : {b : ℕ} {t w : List ℕ} → Reads Plain t w → Reads Plain (92 ∷ b ∷ t) (b ∷ w)
  opens : {t w : List ℕ} → Reads Quoted t w → Reads Plain (39 ∷ t) w
  closes : {t w : List ℕ} → Reads Plain t w → Reads Quoted (39 ∷ t) w
  between : {b : ℕ} {t w : List ℕ} → (b ≡ 39 → ⊥) → Reads Quoted t w → Reads Quoted (b ∷ t) (b ∷ w)
  dollar_opens : {t w : List ℕ} → Reads Escaped t w → Reads Plain (36 ∷ 39 ∷ t) w
  dollar_closes : {t w : List ℕ} → Reads Plain t w → Reads Escaped (39 ∷ t) w
  dollar_between : {b : ℕ} {t w : List ℕ} → (b ≡ 39 → ⊥) → (b ≡ 92 → ⊥) → Reads Escaped t w
      → Reads Escaped (b ∷ t) (b ∷ w)
  digits : {d e g : ℕ} {t w : List ℕ} → d ≤ 7 → e ≤ 7 → g ≤ 7 → Reads Escaped t w
      → Reads Escaped (92 ∷ (48 + d) ∷ (48 + e) ∷ (48 + g) ∷ t) ((64 * d + 8 * e + g) ∷ w)
