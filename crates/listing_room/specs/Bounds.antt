-- How long a listing can be. The code's buffers are this long, and its contracts ask for this room; no reader has to
-- believe it.
use Rattle.std.specs.Prelude.{ℕ, ◌+◌, ◌*◌, Bool, true, false, List, [], ◌∷◌, ◌++◌, map}
use Prim.Native.String.{String}
use lib.Text.{eqt}
use Rattle.base.specs.Pick.{pick}
use Rattle.outputs.specs.Names.{texts}
use Rattle.listing.specs.HerdLines.{
  grazing,
  into_housing,
  liquid_out,
  solid_out,
  pig_housing,
  solid_gases,
  liquid_gases,
}

-- ---- the amounts of a herd of which every input is in its range

-- as long as nothing: 0.000
abbrev pub nothing : ℕ
nothing = 5

-- as long as 2000000.000, what 10000 head excrete at 200 kg a head
abbrev pub longest_amount : ℕ
longest_amount = 11

-- The names under which a herd has nothing. No N2 comes from pasture; pigs are outdoors, on slurry or on litter, and
-- have nothing elsewhere.
abbrev pub no_n2 : List String
no_n2 = "n2_ngrazing" ∷ []

abbrev pub outdoors : List String
outdoors = no_n2 ++ into_housing ++ pig_housing ++ solid_gases ++ liquid_gases

abbrev pub on_slurry : List String
on_slurry = grazing ++ solid_out ++ solid_gases

abbrev pub on_litter : List String
on_litter = grazing ++ liquid_out ++ liquid_gases

abbrev pub among : List String → String → Bool
among [] name = false
among (t ∷ ts) name = pick (eqt name t) true (among ts name)

-- of the TAN less than nothing may remain on pasture
abbrev pub amount_room : List String → String → ℕ
amount_room without name =
    pick (among without name) nothing
    (pick (eqt name "tan_remain_grazing") (longest_amount + 1)
    longest_amount)

-- by the number of the name
abbrev pub amount_rooms : List String → List ℕ
amount_rooms without = map (amount_room without) texts

-- as long as -1024000000.000, 512 times as much, and below zero
abbrev pub total_room : ℕ
total_room = 15

-- ---- listings

-- the listing of any such herd: twenty-three lines, of pigs in a house with a label in quotes (proofs/Lengths.antt)
abbrev pub herd_room : ℕ
herd_room = 1762

-- the listing of any such farm's totals: eighteen lines
abbrev pub totals_room : ℕ
totals_room = 766

-- a listing a herd, and the totals': that of any such farm of so many herds; some farm nearly uses it up
-- (`room_nearly_used` of crate `promises`)
abbrev pub farm_room : ℕ → ℕ
farm_room herds = herds * herd_room + totals_room
