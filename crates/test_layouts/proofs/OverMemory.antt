-- A directory over one in memory, with another premise and another count of failures.
use Rattle.std.proofs.Common.{ℕ, List, true, None, Result, Ok, Err, refl}
use Rattle.std.specs.Prelude.{IsErrOf}
use Rattle.oci_dir.specs.Crash.{IsReplaced, IsSettling}
use Rattle.oci_dir.specs.Device.{Device, AfterPuts}
use Rattle.oci_dir.specs.Memory.{device_of}
use Rattle.oci_dir.specs.declared.fault.DirFault.{DirFault}
use Rattle.oci_dir.specs.declared.fault.DirFault.TheVariants as dir
use Rattle.oci_dir.specs.declared.mem_dir.MemDir.{MemDir}

-- the directory, with this premise and this count
abbrev pub over : MemDir → Type 0 → ℕ → Device
over d honest failures = record {
  file = (device_of d).file;
  draft = (device_of d).draft;
  link = None;
  may_leave = (device_of d).may_leave;
  is_honest = honest;
  stays = λ honest path. (device_of d).stays tt path;
  fails_reads = true;
  failures = failures;
}

abbrev Failed : Result Unit DirFault → Type 0
Failed answer = IsErrOf answer dir.Failed

pub settles-over : (old new : MemDir) (honest : Type 0) (failures : ℕ) (paths : List (List ℕ)) (answer : Result Unit DirFault) → IsSettling (device_of old) (device_of new) paths answer
    → IsSettling (over old honest failures) (over new honest failures) paths answer
settles-over old new honest failures paths (Ok done) s = record {
  only = record { files = λ h. s.only.files tt; draft = λ h. s.only.draft tt; no_more = λ h. s.only.no_more tt; honest = (λ h. h, λ h. h); link = refl; reads = refl; failures = refl };
  settled = λ h. s.settled tt;
  failed = λ f. refl;
}
settles-over old new honest failures paths (Err e) s = record {
  only = record { files = λ h. s.only.files tt; draft = λ h. s.only.draft tt; no_more = λ h. s.only.no_more tt; honest = (λ h. h, λ h. h); link = refl; reads = refl; failures = refl };
  settled = tt;
  failed = λ f. refl;
}

pub replaces-over : (old new : MemDir) (honest : Type 0) (before after : ℕ) (path bytes : List ℕ) → IsReplaced (device_of old) (device_of new) path bytes (Ok tt)
    → AfterPuts (over old honest before) (over new honest after) (Failed (Ok tt)) → IsReplaced (over old honest before) (over new honest after) path bytes (Ok tt)
replaces-over old new honest before after path bytes is device = record {
  replaced = λ h. is.replaced tt;
  memory = λ m h q. cc m;
  whole = λ h. is.whole tt;
  left = λ h. is.left tt;
  other = λ h. is.other tt;
  draft = λ h. is.draft tt;
  device = device;
}

pub fails-over : (old new : MemDir) (honest : Type 0) (before after : ℕ) (path bytes : List ℕ) (e told : DirFault) → (IsErrOf {T = Unit} (Err told) dir.Memory → IsErrOf {T = Unit} (Err e) dir.Memory) → IsReplaced (device_of old) (device_of new) path bytes (Err e)
    → AfterPuts (over old honest before) (over new honest after) (Failed (Err told)) → IsReplaced (over old honest before) (over new honest after) path bytes (Err told)
fails-over old new honest before after path bytes e told memory is device = record {
  replaced = tt;
  memory = λ m h. is.memory (memory m) tt;
  whole = λ h. is.whole tt;
  left = λ h. is.left tt;
  other = λ h. is.other tt;
  draft = tt;
  device = device;
}
