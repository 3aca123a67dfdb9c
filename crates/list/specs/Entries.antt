-- What a list over a lent slice holds.
use Rattle.std.specs.Prelude.{List as Seq, take}
use Rattle.list.specs.declared.List.{List}

-- Its entries: what stands in the first `len` places of the slice.
abbrev pub entries : {X : Type 0} → List X → Seq X
entries l = take l.len l.items.now

-- What stands in all places of the slice, those past the entries too.
abbrev pub places : {X : Type 0} → List X → Seq X
places l = l.items.now
