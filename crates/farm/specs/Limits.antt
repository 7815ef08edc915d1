-- 01, The farm file: "The label has 1 to 16 bytes"; the herds that a farm's record has room for (02, W12: "up to 512");
-- and the slots of a herd, which are enough for every kind. To be believed.
use Rattle.std.specs.Prelude.{ℕ}

abbrev pub label_most : ℕ
label_most = 16

abbrev pub herds_most : ℕ
herds_most = 512

abbrev pub slots : ℕ
slots = 9
