-- A tag is no more than a name: what a copy did stays so.
use Rattle.std.proofs.Common.{◌≡◌, ◌∙◌, ℕ, true, List, Result, Ok, Err, ap, subst}
use Rattle.std.specs.Prelude.{IfOk, IfErr, OnOk, OnErr, MatchResult}
use Rattle.oci_manifest.specs.Descriptor.{Descriptor}
use Rattle.oci_store.specs.Keyed.{has_key}
use Rattle.oci_store.specs.State.{State, OnlyTagsDiffer}
use Rattle.oci_store.specs.Tags.{Tags, set_tag}
use Rattle.oci_plan.specs.declared.gathering.Existing.{Existing}
use Rattle.oci_copy.specs.Copy.{IsCopy, OnlyGrows}
use Rattle.oci_copy.specs.Fault.{IsEarly}
use Rattle.oci_copy.specs.Grown.{HasKnownBytes}
use Rattle.oci_copy.specs.Report.{IsReport}
use Rattle.oci_copy.specs.Tagged.{IsTagged, ResolvesIn}
use Rattle.oci_copy.specs.declared.options.Options.{Options}
use Rattle.oci_copy.specs.declared.fault.CopyFault.{CopyFault}
use Rattle.oci_copy.specs.declared.fault.CopyFault.TheVariants as fault
use Rattle.oci_copy.specs.declared.report.Report.{Report}

-- what holds of the root and the report holds of what a copy by reference answers
pub ok_tagged : (r : Result (Descriptor × Report) CopyFault) (root : Descriptor) (report : Report) (P : Descriptor → Report → Type 0)
    → IfOk r (λ it. it.0 ≡ root) → IfOk r (λ it. it.1 ≡ report) → P root report → IfOk r (λ it. P it.0 it.1)
ok_tagged (Ok it) root report P same_root same_report holds = rw (same_root, same_report) holds
ok_tagged (Err e) root report P same_root same_report holds = same_root

-- a tag that only runs out of memory is refused for what a memory error is
pub refused_tag : {X A B : Type 0} (r : Result X CopyFault) (P : CopyFault → Type 0) → A → B → P fault.Memory → IfErr r (λ e. A → B → e ≡ fault.Memory) → IfErr r P
refused_tag (Ok x) P a b memory wants = wants
refused_tag (Err e) P a b memory wants = rw (wants a b) memory

-- so a copy whose tag only runs out of memory answers as it did before the tag
pub answered_tag : {X : Type 0} (r : Result X CopyFault) (within : Type 0) (cause : CopyFault → Type 0) → within → cause fault.Memory → IfErr r (λ e. e ≡ fault.Memory) → MatchResult r (λ x. within) cause
answered_tag (Ok x) within cause is memory wants = is
answered_tag (Err e) within cause is memory wants = rw wants memory

pub tagged_copy : {D : Type 0} (state : D → State) (source : State) (source_reference name : List ℕ) (opening copied now : D) (root : Descriptor) (r : Result (Descriptor × Report) CopyFault)
    → ResolvesIn source source_reference root → has_key (state copied).nodes root ≡ true → (state copied).tags ≡ (state opening).tags → OnlyTagsDiffer (state copied) (state now)
    → IfOk r (λ it. it.0 ≡ root) → OnOk r ((state now).tags ≡ set_tag (state copied).tags name root) → OnErr r ((state now).tags ≡ (state copied).tags) → IfErr r (λ e. e ≡ fault.Memory)
    → IsTagged state source source_reference name opening now r
tagged_copy state source source_reference name opening copied now root (Ok it) found there tags stays same tagged untagged memory = record {
  root = rw same found;
  held = rw (same, stays.nodes) there;
  tagged = rw same (tagged ∙ ap (λ (t : Tags). set_tag t name root) tags);
  untagged = tt;
  unchanged = tt;
}
tagged_copy state source source_reference name opening copied now root (Err e) found there tags stays same tagged untagged memory = record {
  root = tt;
  held = tt;
  tagged = tt;
  untagged = untagged ∙ tags;
  unchanged = λ early. absurd (subst IsEarly memory early);
}

-- bytes that are known once it is tagged were known before
known : {shares : Type 0} {source opening : State} (now tagged : State) → tagged.failures ≡ now.failures → HasKnownBytes shares source opening tagged → HasKnownBytes shares source opening now
known now tagged failures t = record { is_honest = t.is_honest; is_sound = t.is_sound; is_calm = rw failures at t.is_calm; same_old = t.same_old; same_source = t.same_source }

pub report_tagged : {existing : Existing} {source opening : State} {roots : List Descriptor} {now tagged : State} → OnlyTagsDiffer now tagged → (report : Report)
    → IsReport existing source opening roots now report → IsReport existing source opening roots tagged report
report_tagged stays report is = record { planned = is.planned; pushed = is.pushed; gained = rw stays.nodes is.gained; skipped = is.skipped }

module _ {shares : Type 0} {source opening now tagged : State} {roots : List Descriptor} (stays : OnlyTagsDiffer now tagged) where
  pub copy_tagged : {options : Options} {report : Report} → IsCopy shares options source opening roots now report → IsCopy shares options source opening roots tagged report
  copy_tagged {report = report} copy = record {
    graph = λ h agree. rw stays.nodes (copy.graph h agree);
    reached = λ h agree. rw stays.nodes (copy.reached h agree);
    content = λ t agree. rw stays.entries (copy.content (known now tagged stays.failures t) agree);
    roots_held = rw stays.nodes copy.roots_held;
    was_closed = copy.was_closed;
    was_sound = copy.was_sound;
    reported = report_tagged stays report copy.reported;
  }

  pub growth_tagged : OnlyGrows shares source opening roots now → OnlyGrows shares source opening roots tagged
  growth_tagged grows = record {
    begins = rw stays.nodes grows.begins;
    grown = λ h. rw stays.nodes (grows.grown h);
    grown_content = λ t. rw stays.entries (grows.grown_content (known now tagged stays.failures t));
    sound = λ t. stays.sound.0 (grows.sound (known now tagged stays.failures t));
    met = rw stays.nodes grows.met;
    whole = rw stays.nodes grows.whole;
    checked = rw stays.nodes grows.checked;
    closed = λ was. rw stays.nodes (grows.closed was);
    failures = rw stays.failures grows.failures;
    name = rw stays.name grows.name;
    lasts = λ h entries tags same was. stays.lasts entries tags (grows.lasts h entries tags same was);
  }
