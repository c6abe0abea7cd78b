-- A lane is a list of flits in 8 places, in at the back and out at the front: the flit at the front, and those behind it.
pub use Rattle.lists.specs.Lists.{first_of, rest_of}
