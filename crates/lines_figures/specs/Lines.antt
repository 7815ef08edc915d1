-- The figures of a herd's and of a farm's record as lines (01, The listing: "each herd, then the totals"). To be
-- believed.
use Rattle.std.specs.Prelude.{ℕ, List, ◌++◌}
use Rattle.farm.specs.declared.Herd.{Herd}
use Rattle.farm.specs.declared.Farm.{Farm}
use Rattle.checks.specs.Checks.{herds_of}
use Rattle.model.specs.Answers.{herd_figures, farm_answer}
use Rattle.line_parts.specs.Fields.{each}
use Rattle.listing.specs.Listing.{herd_listing, totals_listing}

-- the listing of a herd's record
abbrev pub listing_of : Herd → List ℕ
listing_of h = herd_listing h.label h.kind (herd_figures h)

-- "each herd, then the totals"
unfoldable pub farm_listing : Farm → List ℕ
farm_listing f = each listing_of (herds_of f) ++ totals_listing (farm_answer f).totals
