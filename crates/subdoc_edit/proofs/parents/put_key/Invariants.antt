use Rattle.std.proofs.Common.{◌≡◌, ◌++◌, ◌∷◌, take}
use Rattle.std.specs.List.{flat_map}
use Rattle.json_model.specs.Edit.{key_byte}
use Rattle.subdoc_edit.proofs.parents.put_key.Given as goal

abbrev pub invariant-loop-byte : goal.invariant-loop-byte
invariant-loop-byte l = l.out.items ≡ l.fn.out.items ++ 0x22 ∷ flat_map key_byte (take l.byte-index l.name)
