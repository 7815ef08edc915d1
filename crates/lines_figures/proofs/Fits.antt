-- An accepted farm's listing has its room. Assumes nothing.
use Prim.Native.Nat.{◌≤◌}
use mathlib.Core.Path.{◌≡◌}
use native.Mathlib.Omega.{arith}
use lib.ListN.{length, length-append}
use Rattle.base.proofs.Each.{each_map}
use Rattle.farm.specs.declared.Farm.{Farm}
use Rattle.farm.specs.Answers.{Accepted}
use Rattle.checks.specs.Checks.{check_farm, herds_of}
use Rattle.checks.proofs.Accepts.{farm-each}
use Rattle.model.specs.Answers.{farm_answer}
use Rattle.line_parts.specs.Fields.{each}
use Rattle.listing.specs.Listing.{totals_listing}
use Rattle.listing_room.specs.Bounds.{herd_room, farm_room}
use Rattle.listing_room.proofs.Rooms.{all_fit, herd-fits, totals-fit, herds-counted}
use Rattle.lines_figures.specs.Lines.{listing_of, farm_listing}

pub farm-fits : (f : Farm) → check_farm f ≡ Accepted → length (farm_listing f) ≤ farm_room f.count
unfolding farm_listing
farm-fits f e =
    omega (
      arith,
      length-append (each listing_of (herds_of f)) (totals_listing (farm_answer f).totals),
      all_fit listing_of herd_room (each_map herd-fits (farm-each f e)),
      herds-counted f,
      totals-fit f e,
    )
