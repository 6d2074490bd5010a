use Rattle.std.proofs.Common.{◌++◌, ◌∷◌, [], take}
use Rattle.std.specs.Borrow.{Bor}
use Rattle.std.specs.Fmt.{HasWritten, IsPlainFormatter}
use Rattle.std.specs.List.{flat_map}
use Rattle.oci_manifest.specs.Descriptor.{Descriptor, key_text}
use Rattle.oci_tag_commands.proofs.mem.MemAnswerDisplay.fmt.Given as goal

-- the lines of the keys so far
abbrev pub invariant-loop-key : goal.invariant-loop-key
invariant-loop-key g l =
    IsPlainFormatter l.fn.f → HasWritten g.W.Write.write_str_gives l.fn.f (flat_map (λ (k : Bor Descriptor). key_text k.now ++ 10 ∷ []) (take l.key-index l.self.blobs.items)) l.f
