-- `listing::Listing::take`: each line that ended leaves room for the next.
use Rattle.listing.specs.Room.{Room}
use Rattle.listing.proofs.Listing.take.Given as goal

abbrev pub invariant-loop-o : goal.invariant-loop-o
invariant-loop-o g l = Room l.self.run l.self.text
