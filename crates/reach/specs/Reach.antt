-- How far reading a file came, and when it came further: 12, and of a log 14 with record 0, are found at the end of the
-- file, and count as later than any record. A file that is too long, 1, was not read. To be believed.
use Rattle.std.specs.Prelude.{ℕ, Bool, true, false, ltb}
use Rattle.base.specs.Pick.{if◌is◌then◌else◌}
use Rattle.reach.specs.declared.Reach.{Reach}
use Rattle.reach.specs.declared.Reach.TheVariants.{TooLong, At, End, Through}

-- by a refusal's number and its record
unfoldable pub reach_of : ℕ → ℕ → Reach
reach_of number n =
    if number is 1 then TooLong
    else if number is 12 then End
    else if number is 14 then (if n is 0 then End else At n)
    else At n

-- the second is further on than the first, which was refused
abbrev pub further : Reach → Reach → Bool
further TooLong after = false
further (At n) TooLong = false
further (At n) (At m) = ltb n m
further (At n) End = true
further (At n) Through = true
further End TooLong = false
further End (At m) = false
further End End = false
further End Through = true
further Through after = false
