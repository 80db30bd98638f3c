-- The end of a run of a form without input.
use Rattle.std.proofs.Common.{◌≡◌, ℕ, List, [], length, Result, Ok, Err, refl, sym, subst}
use Rattle.std.specs.Prelude.{OnOk, OnErr, IfErr}
use Rattle.cs_outside.specs.Counts.{Rose}
use Rattle.cs_outside.specs.Outside.{SourceState, SinkState}
use Rattle.cs_outside.specs.Streams.{HasWritten, HasWrittenFront, IsShortOf}
use Rattle.lte_args.specs.declared.form.Form.{Form}
use Rattle.lte_top.specs.declared.status.Status.{Status}
use Rattle.lte_top.specs.declared.status.Status.TheVariants.{WriteFault}
use Rattle.lte_top.specs.Forms.{Input, nothing, input_of, Refuses, IsOutput}
use Rattle.lte_top.specs.Run.{HasReadInput, HasOutput, IsDone, Ends}

module _ (form : Form) (reads : input_of form ≡ nothing) (output : List ℕ) (is : IsOutput form [] output) (given : SourceState) where
  -- nothing is read
  unread : HasOutput form output given given
  unread = record {
    bytes = [];
    whole = subst (λ (input : Input). HasReadInput input [] given given) (sym reads) (refl, record { left = refl; faults = refl });
    unrefused = λ status. subst (λ (input : Input). Refuses input [] status → ⊥) (sym reads) (λ r. r);
    is_output = is;
  }

  pub unread_done : {T : Type 0} (r : Result T Status) (before now : SinkState) → OnOk r (HasWritten output before now) → OnOk r (IsDone form (given, before) (given, now))
  unread_done (Ok x) before now w = record { output = output; has_output = unread; written = w }
  unread_done (Err e) before now w = tt

  pub unread_fault : {T : Type 0} (r : Result T Status) (before now : SinkState) → IfErr r (λ status. status ≡ WriteFault) → OnErr r (HasWrittenFront output before now) →
      OnErr r (IsShortOf (length output) before) → OnErr r (Rose before.faults now.faults) → IfErr r (Ends form (given, before) (given, now))
  unread_fault (Ok x) before now e front full rose = tt
  unread_fault (Err s) before now e front full rose =
      subst (Ends form (given, before) (given, now)) (sym e)
      (record { output = output; has_output = unread; front_written = front; counted = rose; full = full })
