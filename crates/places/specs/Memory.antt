-- Where a list lies, and what stands there.
use Rattle.std.specs.Prelude.{List}
use Rattle.places.specs.declared.lent_lists.memory.Places.{Places}
use Rattle.places.specs.declared.lent_lists.memory.Places.TheVariants.{Lent, Owned}

-- all that stands in the places, lent or owned
abbrev pub contents : {A : Type 0} → Places A → List A
contents (Lent places) = places.now
contents (Owned places) = places.items
