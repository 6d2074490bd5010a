-- The steps of a save that a crash leaves whole.
use Rattle.std.proofs.Common.{◌≡◌, ℕ, zero, suc, ◌+◌, true, ◌⊎◌, inl, inr, List, [], ◌∷◌, ◌++◌, append_assoc, map, drop, cond, Option, Some, option_map, Result, Ok, Err, refl, sym, ap, subst, ◌∙◌, arith}
use Rattle.std.specs.Prelude.{◌<◌, OnOk, IsErrOf}
use Rattle.std.specs.List.{All, slice_get}
use Rattle.std.specs.Str.{bytes_eq}
use Rattle.std.proofs.lemmas.Bool.{cases_Bool}
use Rattle.std.proofs.lemmas.List.Elements.{All-nil, All-cons, All-head, All-tail, All-weaker}
use Rattle.std.proofs.lemmas.Option.{same_Some}
use Rattle.std.proofs.lemmas.Slice.Eq.{bytes_eq-Decides}
use Rattle.oci_manifest.specs.Descriptor.{Descriptor}
use Rattle.oci_store.specs.Graph.{Node}
use Rattle.oci_store.specs.Push.{IsRaised}
use Rattle.oci_layout_store.specs.Blobs.{blob_path}
use Rattle.oci_dir.specs.Crash.{NoMoreBut, OldOrNew, IsSettled, IsReplaced, OnlySettles, IsSettling, IsLeft}
use Rattle.oci_dir.specs.Device.{AfterPuts, Device, File, IsPut, Only, Puts, Same, Touches}
use Rattle.oci_layout_store.specs.Index.{index_file, layout_file}
use Rattle.oci_layout_store.specs.Settled.{AfterSettling, IsSaved, LeftSaved, PutsSettled, SettlesFiles, paths_of}
use Rattle.oci_dir.specs.declared.fault.DirFault.{DirFault}
use Rattle.oci_dir.specs.declared.fault.DirFault.TheVariants as dir
use Rattle.oci_layout_store.proofs.Files.{index_layout, index_blob}
use Rattle.oci_dir.proofs.Answers.{on_ok, on_ok-map}

-- ---- besides the files

pub AfterSettling-settle : (old new : Device) (answer : Result Unit DirFault) → OnlySettles old new → (IsErrOf answer dir.Failed → old.fails_reads ≡ true) → AfterSettling old new answer
AfterSettling-settle old new answer only fails = record {
  honest = only.honest;
  link = only.link;
  reads = only.reads;
  failed = λ f. inl (fails f, only.failures);
  calm = λ less. absurd (omega (arith, less, only.failures));
  failures = omega (arith, only.failures);
}

pub AfterSettling-put : (old new : Device) (answer : Result Unit DirFault) → AfterPuts old new (IsErrOf answer dir.Failed) → AfterSettling old new answer
AfterSettling-put old new answer put = record {
  honest = put.honest;
  link = put.link;
  reads = put.reads;
  failed = λ f. inr (put.raised f);
  calm = put.calm;
  failures = put.failures;
}

pub AfterSettling-same : (now : Device) (answer : Result Unit DirFault) → (IsErrOf answer dir.Failed → ⊥) → AfterSettling now now answer
AfterSettling-same now answer never = record {
  honest = (λ h. h, λ h. h);
  link = refl;
  reads = refl;
  failed = λ f. absurd (never f);
  calm = λ less. absurd (omega (arith, less));
  failures = omega arith;
}

-- no put failed where the last call passed
pub calm_after : (old new : Device) → AfterSettling old new (Ok tt) → new.failures ≡ old.failures
calm_after old new after =
    let calm : old.failures < new.failures → ⊥ = λ less. cc (after.calm less) in
    omega (arith, after.failures, calm)

pub AfterSettling-both : (old mid new : Device) (answer : Result Unit DirFault) → AfterSettling old mid (Ok tt) → AfterSettling mid new answer → AfterSettling old new answer
AfterSettling-both old mid new answer one two =
    let same : mid.failures ≡ old.failures = calm_after old mid one in
    record {
      honest = (λ h. two.honest.0 (one.honest.0 h), λ h. one.honest.1 (two.honest.1 h));
      link = two.link ∙ one.link;
      reads = two.reads ∙ one.reads;
      failed = λ f. elim (two.failed f) [
        | inl unread ↦ inl (sym one.reads ∙ unread.0, unread.1 ∙ same)
        | inr raised ↦ inr (subst (λ (n : ℕ). IsRaised n new.failures) same raised)
      ];
      calm = λ less. two.calm (subst (λ (n : ℕ). n < new.failures) (sym same) less);
      failures = omega (arith, two.failures, same);
    }

-- ---- settling

abbrev pub IsSettledOf : Device → Node → Type 0
IsSettledOf dir n = IsSettled dir (blob_path n.0.digest)

all_settled : (dir : Device) (nodes : List Node) → All (IsSettled dir) (map (λ (n : Node). blob_path n.0.digest) nodes) → All (IsSettledOf dir) nodes
all_settled dir [] h = All-nil (IsSettledOf dir)
all_settled dir (n ∷ nodes) h =
    let rest = map (λ (n : Node). blob_path n.0.digest) nodes in
    All-cons (IsSettledOf dir) n nodes (All-head (IsSettled dir) (blob_path n.0.digest) rest h) (all_settled dir nodes (All-tail (IsSettled dir) (blob_path n.0.digest) rest h))

pub SettlesFiles-all : (old new : Device) (nodes : List Node) (paths : List (List ℕ)) (answer : Result Unit DirFault) → paths ≡ paths_of nodes → IsSettling old new paths answer → SettlesFiles old new nodes answer
SettlesFiles-all old new nodes paths answer is settling =
    let blobs : List (List ℕ) = map (λ (n : Node). blob_path n.0.digest) nodes in
    let H : Type 0 = old.is_honest in
    let settled : OnOk answer (H → All (IsSettled new) (layout_file ∷ blobs)) = subst (λ (ps : List (List ℕ)). OnOk answer (H → All (IsSettled new) ps)) is settling.settled in
    record {
      only = settling.only;
      layout = on_ok-map answer (H → All (IsSettled new) (layout_file ∷ blobs)) (H → IsSettled new layout_file) settled (λ all honest. All-head (IsSettled new) layout_file blobs (all honest));
      blobs = on_ok-map answer (H → All (IsSettled new) (layout_file ∷ blobs)) (H → All (IsSettledOf new) nodes) settled
          (λ all honest. all_settled new nodes (All-tail (IsSettled new) layout_file blobs (all honest)));
      failed = settling.failed;
    }

-- the path of the key at a place is the next one
abbrev path_of : Node → List ℕ
path_of n = blob_path n.0.digest

next_path : (graph : List Node) (i j : ℕ) (k : Descriptor) → suc i ≡ j → option_map (λ (n : Node). n.0) (slice_get graph i) ≡ Some k → map path_of (drop i graph) ≡ blob_path k.digest ∷ map path_of (drop j graph)
next_path [] i j k e h = cc h
next_path (n ∷ graph) zero j k e h =
    subst (λ (m : ℕ). map path_of (n ∷ graph) ≡ blob_path k.digest ∷ map path_of (drop m (n ∷ graph))) e (ap (λ (x : Descriptor). blob_path x.digest ∷ map path_of graph) (same_Some n.0 k h))
next_path (n ∷ graph) (suc i) j k e h =
    subst (λ (m : ℕ). map path_of (drop (suc i) (n ∷ graph)) ≡ blob_path k.digest ∷ map path_of (drop m (n ∷ graph))) e (next_path graph i (suc i) k refl h)

pub paths-more : (graph : List Node) (i : ℕ) (k : Descriptor) (paths all : List (List ℕ)) → option_map (λ (n : Node). n.0) (slice_get graph i) ≡ Some k → paths ++ map path_of (drop i graph) ≡ all
    → (paths ++ blob_path k.digest ∷ []) ++ map path_of (drop (i + 1) graph) ≡ all
paths-more graph i k paths all h so_far =
    append_assoc paths (blob_path k.digest ∷ []) (map path_of (drop (i + 1) graph)) ∙ ap (λ (rest : List (List ℕ)). paths ++ rest) (sym (next_path graph i (i + 1) k (omega arith) h)) ∙ so_far

-- nothing was settled where memory ran out before
pub OnlySettles-same : (now : Device) → OnlySettles now now
OnlySettles-same now = record { files = λ h q. refl; draft = λ h q. refl; no_more = λ h q x is. is; honest = (λ h. h, λ h. h); link = refl; reads = refl; failures = refl }

pub SettlesFiles-none : (now : Device) (nodes : List Node) → SettlesFiles now now nodes (Err dir.Memory)
SettlesFiles-none now nodes = record { only = OnlySettles-same now; layout = tt; blobs = tt; failed = λ f. cc f }

-- ---- the steps of a save

-- what is left with the new index
left_new : (old mid new : Device) (nodes : List Node) (bytes : List ℕ) (left : File) → old.is_honest → SettlesFiles old mid nodes (Ok tt) → NoMoreBut mid new index_file
    → IsLeft new left → left index_file ≡ Some bytes → LeftSaved old nodes bytes left
left_new old mid new nodes bytes left honest one other is fresh = record {
  layout = one.layout honest (left layout_file) (other layout_file index_layout (left layout_file) (is layout_file)) ∙ one.only.files honest layout_file;
  index = fresh;
  blobs = All-weaker (IsSettledOf mid) (λ (n : Node). left (blob_path n.0.digest) ≡ old.file (blob_path n.0.digest))
      (λ n was. was (left (blob_path n.0.digest)) (other (blob_path n.0.digest) (index_blob n.0.digest) (left (blob_path n.0.digest)) (is (blob_path n.0.digest))) ∙ one.only.files honest (blob_path n.0.digest)) nodes (one.blobs honest);
  rest = λ q apart. one.only.no_more honest q (left q) (other q apart (left q) (is q));
}

-- what is left with what could be left of the index before
left_old : (old mid new : Device) (left : File) → old.is_honest → OnlySettles old mid → NoMoreBut mid new index_file → IsLeft new left → mid.may_leave index_file (left index_file) → IsLeft old left
left_old old mid new left honest only other is was q =
    elim (cases_Bool (bytes_eq index_file q)) [
      | inl same ↦ subst (λ (p : List ℕ). old.may_leave p (left p)) ((bytes_eq-Decides index_file q).0 same) (only.no_more honest index_file (left index_file) was)
      | inr apart ↦ only.no_more honest q (left q) (other q apart (left q) (is q))
    ]

left_either : (old mid new : Device) (nodes : List Node) (bytes : List ℕ) (left : File) → old.is_honest → SettlesFiles old mid nodes (Ok tt) → OldOrNew mid new index_file bytes → NoMoreBut mid new index_file
    → IsLeft new left → IsLeft old left ⊎ LeftSaved old nodes bytes left
left_either old mid new nodes bytes left honest one either other is =
    elim (either (left index_file) (is index_file)) [
      | inl was ↦ inl (left_old old mid new left honest one.only other is was)
      | inr fresh ↦ inr (left_new old mid new nodes bytes left honest one other is fresh)
    ]

puts_both : (old mid new : File) (path bytes : List ℕ) → Same old mid → Puts mid new path bytes → Puts old new path bytes
puts_both old mid new path bytes same puts q = puts q ∙ ap (λ (o : Option (List ℕ)). cond (bytes_eq path q) (Some bytes) o) (same q)

puts_then : (old mid new : File) (path bytes : List ℕ) → Puts old mid path bytes → Same mid new → Puts old new path bytes
puts_then old mid new path bytes puts same q = same q ∙ puts q

whole_both : (old mid new : File) (path bytes : List ℕ) → Same old mid → Same mid new ⊎ Puts mid new path bytes → Same old new ⊎ Puts old new path bytes
whole_both old mid new path bytes same either = elim either [ inl again ↦ inl (λ q. again q ∙ same q) | inr puts ↦ inr (puts_both old mid new path bytes same puts) ]

pub touches_whole : (old new : File) (path bytes : List ℕ) → Same old new ⊎ Puts old new path bytes → Touches old new path
touches_whole old new path bytes either q apart = elim either [ inl same ↦ same q | inr puts ↦ rw apart at (puts q) ]

-- a save whose blobs were not settled
pub IsSaved-first : (old new : Device) (nodes : List Node) (bytes : List ℕ) (e : DirFault) → SettlesFiles old new nodes (Err e) → IsSaved old new nodes bytes (Err e)
IsSaved-first old new nodes bytes e one = record {
  saved = tt;
  whole = λ h. inl (one.only.files h);
  left = λ h left is. inl (λ q. one.only.no_more h q (left q) (is q));
  settled = tt;
  draft = tt;
  device = AfterSettling-settle old new (Err e) one.only one.failed;
}

-- a save whose index was not replaced
pub IsSaved-second : (old mid new : Device) (nodes : List Node) (bytes : List ℕ) (e : DirFault) → SettlesFiles old mid nodes (Ok tt) → IsReplaced mid new index_file bytes (Err e) → IsSaved old new nodes bytes (Err e)
IsSaved-second old mid new nodes bytes e one two = record {
  saved = tt;
  whole = λ h. whole_both old.file mid.file new.file index_file bytes (one.only.files h) (two.whole (one.only.honest.0 h));
  left = λ h left is. left_either old mid new nodes bytes left h one (two.left (one.only.honest.0 h)) (two.other (one.only.honest.0 h)) is;
  settled = tt;
  draft = tt;
  device = AfterSettling-both old mid new (Err e) (AfterSettling-settle old mid (Ok tt) one.only (λ f. cc f)) (AfterSettling-put mid new (Err e) two.device);
}

-- a save whose index was replaced, and then settled or not
abbrev IsMid : Device → Device → Device → List Node → List ℕ → Type 0
IsMid old mid late nodes bytes = SettlesFiles old mid nodes (Ok tt) × IsReplaced mid late index_file bytes (Ok tt)

late_left : (old mid late new : Device) (nodes : List Node) (bytes : List ℕ) → IsMid old mid late nodes bytes → OnlySettles late new → old.is_honest → (left : File) → IsLeft new left → IsLeft old left ⊎ LeftSaved old nodes bytes left
late_left old mid late new nodes bytes m three h left is =
    let h' = m.0.only.honest.0 h in
    let h'' = m.1.device.honest.0 h' in
    left_either old mid late nodes bytes left h m.0 (m.1.left h') (m.1.other h') (λ q. three.no_more h'' q (left q) (is q))

late_whole : (old mid late new : Device) (nodes : List Node) (bytes : List ℕ) → IsMid old mid late nodes bytes → OnlySettles late new → old.is_honest → Puts old.file new.file index_file bytes
late_whole old mid late new nodes bytes m three h =
    let h' = m.0.only.honest.0 h in
    puts_then old.file late.file new.file index_file bytes (puts_both old.file mid.file late.file index_file bytes (m.0.only.files h) (m.1.replaced h')) (three.files (m.1.device.honest.0 h'))

late_device : (old mid late new : Device) (nodes : List Node) (bytes : List ℕ) (answer : Result Unit DirFault) → IsMid old mid late nodes bytes → IsSettling late new (index_file ∷ []) answer → AfterSettling old new answer
late_device old mid late new nodes bytes answer m three =
    AfterSettling-both old late new answer
    (AfterSettling-both old mid late (Ok tt) (AfterSettling-settle old mid (Ok tt) m.0.only (λ f. cc f)) (AfterSettling-put mid late (Ok tt) m.1.device))
    (AfterSettling-settle late new answer three.only three.failed)

late_settled : (old mid late new : Device) (nodes : List Node) (bytes : List ℕ) → IsMid old mid late nodes bytes → OnlySettles late new → IsSettled new index_file
    → old.is_honest → (left : File) → IsLeft new left → LeftSaved old nodes bytes left
late_settled old mid late new nodes bytes m three settled h left is =
    let h' = m.0.only.honest.0 h in
    let h'' = m.1.device.honest.0 h' in
    let same : bytes_eq index_file index_file ≡ true = (bytes_eq-Decides index_file index_file).1 refl in
    let there : new.file index_file ≡ Some bytes = rw same at (late_whole old mid late new nodes bytes m three h index_file) in
    left_new old mid late nodes bytes left h m.0 (m.1.other h') (λ q. three.no_more h'' q (left q) (is q)) (settled (left index_file) (is index_file) ∙ there)

late_draft : (old mid late new : Device) (nodes : List Node) (bytes : List ℕ) → IsMid old mid late nodes bytes → OnlySettles late new → old.is_honest → Same old.draft new.draft
late_draft old mid late new nodes bytes m three h q =
    let h' = m.0.only.honest.0 h in
    three.draft (m.1.device.honest.0 h') q ∙ m.1.draft h' q ∙ m.0.only.draft h q

pub IsSaved-last : (old mid late new : Device) (nodes : List Node) (bytes : List ℕ) (answer : Result Unit DirFault) → SettlesFiles old mid nodes (Ok tt) → IsReplaced mid late index_file bytes (Ok tt)
    → IsSettling late new (index_file ∷ []) answer → IsSaved old new nodes bytes answer
IsSaved-last old mid late new nodes bytes (Ok done) one two three = record {
  saved = late_whole old mid late new nodes bytes (one, two) three.only;
  whole = λ h. inr (late_whole old mid late new nodes bytes (one, two) three.only h);
  left = late_left old mid late new nodes bytes (one, two) three.only;
  settled = λ h. late_settled old mid late new nodes bytes (one, two) three.only (All-head (IsSettled new) index_file [] (three.settled (two.device.honest.0 (one.only.honest.0 h)))) h;
  draft = late_draft old mid late new nodes bytes (one, two) three.only;
  device = late_device old mid late new nodes bytes (Ok done) (one, two) three;
}
IsSaved-last old mid late new nodes bytes (Err e) one two three = record {
  saved = tt;
  whole = λ h. inr (late_whole old mid late new nodes bytes (one, two) three.only h);
  left = late_left old mid late new nodes bytes (one, two) three.only;
  settled = tt;
  draft = tt;
  device = late_device old mid late new nodes bytes (Err e) (one, two) three;
}

pub IsSaved-none : (now : Device) (nodes : List Node) (bytes : List ℕ) → IsSaved now now nodes bytes (Err dir.Memory)
IsSaved-none now nodes bytes = IsSaved-first now now nodes bytes dir.Memory (SettlesFiles-none now nodes)

-- ---- a file that is put and settled

pub PutsSettled-failed : (old new : Device) (path bytes : List ℕ) (paths : List (List ℕ)) (e : DirFault) → IsPut old new path (Only bytes) (Err e) → PutsSettled old new path bytes paths (Err e)
PutsSettled-failed old new path bytes paths e put = record {
  put = tt;
  settled = tt;
  other = put.other;
  device = AfterSettling-put old new (Err e) put.device;
}

late_put : (old mid new : Device) (path bytes : List ℕ) → IsPut old mid path (Only bytes) (Ok tt) → OnlySettles mid new → old.is_honest → Puts old.file new.file path bytes
late_put old mid new path bytes put only h = puts_then old.file mid.file new.file path bytes (put.put h bytes refl) (only.files (put.device.honest.0 h))

pub PutsSettled-late : (old mid new : Device) (path bytes : List ℕ) (paths : List (List ℕ)) (answer : Result Unit DirFault) → IsPut old mid path (Only bytes) (Ok tt) → IsSettling mid new paths answer → PutsSettled old new path bytes paths answer
PutsSettled-late old mid new path bytes paths answer put settling = record {
  put = on_ok answer (old.is_honest → Puts old.file new.file path bytes) (late_put old mid new path bytes put settling.only);
  settled = on_ok-map answer (mid.is_honest → All (IsSettled new) paths) (old.is_honest → All (IsSettled new) paths) settling.settled (λ settled h. settled (put.device.honest.0 h));
  other = λ h. touches_whole old.file new.file path bytes (inr (late_put old mid new path bytes put settling.only h));
  device = AfterSettling-both old mid new answer (AfterSettling-put old mid (Ok tt) put.device) (AfterSettling-settle mid new answer settling.only settling.failed);
}
