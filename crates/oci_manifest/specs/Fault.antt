-- The errors of keys and manifests, and how a result of the code corresponds to a definition.
use Rattle.std.specs.Prelude.{◌≡◌, ℕ, List, Result, Ok, Err}
use Rattle.oci_manifest.specs.declared.fault.KeyFault.{KeyFault}
use Rattle.oci_manifest.specs.declared.fault.KeyFault.TheVariants as key
use Rattle.oci_manifest.specs.declared.fault.ManifestFault.{ManifestFault}
use Rattle.oci_manifest.specs.declared.fault.ManifestFault.TheVariants as code

-- the rule that a manifest breaks, with the bytes of the member's name and the position if it has
-- them; a memory error is not such a rule
pub data Fault : Type 0 where
  not_json : Fault
  not_object : Fault
  no_config : Fault
  bad_list : List ℕ → Fault
  bad_descriptor : List ℕ → ℕ → Fault

-- the code's error names the broken rule, or is a memory error
abbrev pub Fails : {Y : Type 0} → ManifestFault → Result Y Fault → Type 0
Fails code.NotJson r = r ≡ Err not_json
Fails code.NotObject r = r ≡ Err not_object
Fails code.NoConfig r = r ≡ Err no_config
Fails (code.BadList member) r = r ≡ Err (bad_list member.now)
Fails (code.BadDescriptor member position) r = r ≡ Err (bad_descriptor member.now position)
Fails code.Memory r = Unit {0}

-- the code returns the value of the definition, seen through a view, or a memory error
abbrev pub Gives : {X Y : Type 0} → (X → Y) → Result X ManifestFault → Result Y Fault → Type 0
Gives view (Ok x) r = r ≡ Ok (view x)
Gives view (Err e) r = Fails e r

-- the code's error names this rule, and is not a memory error
abbrev pub IsFault : ManifestFault → Fault → Type 0
IsFault code.NotJson f = f ≡ not_json
IsFault code.NotObject f = f ≡ not_object
IsFault code.NoConfig f = f ≡ no_config
IsFault (code.BadList member) f = f ≡ bad_list member.now
IsFault (code.BadDescriptor member position) f = f ≡ bad_descriptor member.now position
IsFault code.Memory f = ⊥

-- the number of a manifest's error
abbrev pub number_of : ManifestFault → ℕ
number_of code.NotJson = 10
number_of code.NotObject = 11
number_of code.NoConfig = 12
number_of (code.BadList member) = 13
number_of (code.BadDescriptor member position) = 14
number_of code.Memory = 15

-- the number of a key's error
abbrev pub key_number_of : KeyFault → ℕ
key_number_of key.BadSize = 4
