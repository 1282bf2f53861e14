-- `listing::write_listing` meets its contract: the array has room for every listing.
use native.Mathlib.Omega.{arith}
use Rattle.listing.specs.Listing.{header_line, listing, listing_rule}
use Rattle.listing.proofs.write_listing.Goals as goal

pub returns : goal.returns
unfolding listing_rule listing header_line
returns c = record {
  written = c.write_paired.ensures.written (omega arith);
}
