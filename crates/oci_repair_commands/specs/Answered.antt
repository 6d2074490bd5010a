-- What `repair` prints.
use Rattle.std.specs.Prelude.{◌≡◌, ◌++◌, ◌↔◌, ℕ, List, [], codes, flat_map, length}
use Rattle.std.specs.Fmt.{decimal}
use Rattle.oci_manifest.specs.Descriptor.{Descriptor, key_text}
use Rattle.oci_program.specs.declared.outcome.Outcome.{Outcome}
use Rattle.oci_program.specs.declared.outcome.Outcome.TheVariants as outcome
use Rattle.oci_repair_commands.specs.declared.answer.RepairAnswer.{RepairAnswer}

-- the line of a key whose file was put
abbrev pub repaired_line : Descriptor → List ℕ
repaired_line k = codes "repaired " ++ key_text k ++ codes "\n"

-- the line of a key that has no whole file
abbrev pub missing_line : Descriptor → List ℕ
missing_line k = codes "missing " ++ key_text k ++ codes "\n"

-- the last line
abbrev pub counts_line : RepairAnswer → List ℕ
counts_line a = codes "held " ++ decimal a.held ++ codes " repaired " ++ decimal (length a.repaired.items) ++ codes " bytes " ++ decimal a.bytes.0
    ++ codes " missing " ++ decimal (length a.missing.items) ++ codes "\n"

-- the lines of an answer
abbrev pub repair_text : RepairAnswer → List ℕ
repair_text a = flat_map repaired_line a.repaired.items ++ (flat_map missing_line a.missing.items ++ counts_line a)

-- the outcome is good exactly if nothing is missing
abbrev pub IsOutcome : RepairAnswer → Outcome → Type 0
IsOutcome answer result = (result ≡ outcome.Good) ↔ (answer.missing.items ≡ [])
