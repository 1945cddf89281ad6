-- `listing::Listing::read_all`: each read leaves room for a line.
use Rattle.listing.specs.Room.{Room}
use Rattle.listing.proofs.Listing.read_all.Given as goal

abbrev pub invariant-loop : goal.invariant-loop
invariant-loop g l = Room l.self.run l.self.text
