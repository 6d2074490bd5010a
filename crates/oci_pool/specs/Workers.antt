-- The results and the fault of a worker.
use Rattle.std.specs.Prelude.{◌≡◌, ◌⊎◌, ℕ, ◌<◌, ◌≤◌, List, length, slice_index_or, Option, Some, None, IfSome, IsSome, All}
use Rattle.oci_pool.specs.declared.fault.PoolFault.{PoolFault}
use Rattle.oci_pool.specs.declared.fault.PoolFault.TheVariants.{Job, Incomplete, BadWorkers, Memory}

-- the fault that a worker may report: the job of a number failed, or memory was refused; or it
-- reports none
abbrev pub MayCome : {F : Type 0} → ℕ → (ℕ → F → Type 0) → Option (PoolFault F) → Type 0
MayCome count fails None = Unit {0}
MayCome count fails (Some (Job k f)) = (k < count) × fails k f
MayCome count fails (Some (Incomplete k)) = ⊥
MayCome count fails (Some BadWorkers) = ⊥
MayCome count fails (Some Memory) = Unit {0}

-- the fault is that of a job with at most this number
abbrev pub IsJobUpTo : {F : Type 0} → ℕ → Option (PoolFault F) → Type 0
IsJobUpTo k None = ⊥
IsJobUpTo k (Some (Job m g)) = m ≤ k
IsJobUpTo k (Some (Incomplete m)) = ⊥
IsJobUpTo k (Some BadWorkers) = ⊥
IsJobUpTo k (Some Memory) = ⊥

-- the fault of a worker gives way to the reported one: the fault of a job only to that of a job
-- with at most its number, and any other fault to any
abbrev pub GivesWay : {F : Type 0} → Option (PoolFault F) → Option (PoolFault F) → Type 0
GivesWay None reported = Unit {0}
GivesWay (Some (Job k f)) reported = IsJobUpTo k reported
GivesWay (Some (Incomplete k)) reported = IsSome reported
GivesWay (Some BadWorkers) reported = IsSome reported
GivesWay (Some Memory) reported = IsSome reported

-- the reported one of two faults: each of them gives way to it
pub record IsFirstOf {F : Type 0} (count : ℕ) (fails : ℕ → F → Type 0) (a b reported : Option (PoolFault F)) : Type 0 where
  pub fault : MayCome count fails reported
  pub over_a : GivesWay a reported
  pub over_b : GivesWay b reported
  pub came : (reported ≡ a) ⊎ (reported ≡ b)

-- each result is at its number
abbrev pub InPlace : {O : Type 0} → (ℕ → O → Type 0) → List (Option O) → Type 0
InPlace {O} answers table = (k : ℕ) (d : Option O) → k < length table → IfSome (slice_index_or table k d) (answers k)

-- a worker returns results of their numbers, and a fault that a worker may report
pub record Worked {O F : Type 0} (count : ℕ) (answers : ℕ → O → Type 0) (fails : ℕ → F → Type 0) (done : List (ℕ × O)) (fault : Option (PoolFault F)) : Type 0 where
  pub done_is : All (λ (p : ℕ × O). answers p.0 p.1) done
  pub fault_is : MayCome count fails fault

-- each result and each fault that the job may return is one that the run expects of its number
pub record IsJobOf {O F : Type 0} (job_answers : ℕ → O → Type 0) (job_fails : ℕ → F → Type 0) (answers : ℕ → O → Type 0) (fails : ℕ → F → Type 0) : Type 0 where
  pub answers_are : (k : ℕ) (x : O) → job_answers k x → answers k x
  pub fails_are : (k : ℕ) (f : F) → job_fails k f → fails k f
