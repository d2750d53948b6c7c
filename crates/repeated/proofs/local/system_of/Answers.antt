-- `repeated::local::system_of` meets its contract. Assumes nothing.
use Rattle.repeated.proofs.local.system_of.Goals as goal

pub side_of-rows-requires : goal.side_of-rows-requires
side_of-rows-requires c = c.requires.rows

pub invariant_of-region : goal.invariant_of-region
invariant_of-region c = record { accepted = c.requires.mask }

pub invariant_of-accepted : goal.invariant_of-accepted
invariant_of-accepted c = record { accepted = c.requires.matrix }
