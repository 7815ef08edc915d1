-- Texts that do nothing to a terminal: made of printable bytes of ASCII and of the letters from U+00A0 to U+07FF in
-- UTF-8. No control byte is among them, and no control character of two bytes. To be believed.
use Rattle.std.specs.Prelude.{ℕ, ◌+◌, ◌*◌, ◌≤◌, ◌≡◌, List, [], ◌∷◌}

-- 110xxxxx 10xxxxxx, the eleven bits of the code in their order
pub record Letter (b c : ℕ) : Type 0 where
  pub code : ℕ
  pub high : ℕ
  pub low : ℕ
  pub from : 160 ≤ code
  pub to : code ≤ 2047
  pub bits : code ≡ 64 * high + low
  pub six : low ≤ 63
  pub first : b ≡ 192 + high
  pub second : c ≡ 128 + low

pub data Readable : List ℕ → Type 0 where
  none : Readable []
  ascii : {b : ℕ} {l : List ℕ} → 32 ≤ b → b ≤ 126 → Readable l → Readable (b ∷ l)
  two : {b c : ℕ} {l : List ℕ} → Letter b c → Readable l → Readable (b ∷ c ∷ l)
