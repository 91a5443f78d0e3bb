-- Records on their own.
use Rattle.std.proofs.Common.{◌≡◌, ℕ, ◌<◌, Bool, inl, inr, List, replicate, Some, Result, sym, subst, refl, ◌∙◌, arith}
use Rattle.std.proofs.lemmas.List.{get_or-replicate, length-replicate}
use Rattle.wg_params.specs.Parameters.{Parameters}
use Rattle.wg_codes.specs.declared.outcome.Read.{Read}
use Rattle.wg_codes.specs.declared.outcome.Read.TheVariants as reads
use Rattle.wg_graph.specs.Ascending.{Ascends, Below}
use Rattle.wg_grammar.specs.declared.fault.Fault.{Fault}
use Rattle.wg_grammar.specs.declared.fault.Field.{Field}
use Rattle.wg_grammar.specs.declared.fault.Field.TheVariants as field
use Rattle.wg_params.specs.declared.code.Code.{Code}
use Rattle.wg_grammar.specs.declared.fault.Kind.{Kind}
use Rattle.wg_grammar.specs.declared.need.Need.TheVariants as need
use Rattle.wg_grammar.specs.Context.{Known, Context, referenced, depth_of, no_page}
use Rattle.wg_grammar.specs.SoFar.{SoFar, nothing_yet, after}
use Rattle.wg_grammar.specs.Next.{next}
use Rattle.wg_grammar.specs.Record.{Whole, Refused, ReadsRecord}
use Rattle.wg_grammar.specs.Refusal.{refusal, judged}
use Rattle.wg_decoder.specs.Answer.{context_at}
use Rattle.wg_decoder.specs.Apart.{of_outdegree, HeadStands, HeadFails}
use Rattle.wg_decoder.specs.Chains.{endless}
use Rattle.wg_decoder.specs.Remembered.{Serves}
use Rattle.wg_decoder.specs.Stages.Members.{IsRest}

-- ---- the rest of a record

pub rest_reads : (p : Parameters) (page begin start d r : ℕ) (list : List ℕ) (depth : ℕ) (bits : List Bool) (at : ℕ) (w : Result Whole Fault) (arcs_before : ℕ) (behind : List Known) → begin ≡ start →
    IsRest p page begin d r list depth bits at w → referenced behind r ≡ list → depth_of behind r ≡ depth → HeadStands p (context_at page arcs_before behind) bits start d r at →
    ReadsRecord p (context_at page arcs_before behind) bits start w
rest_reads p page begin start d r list depth bits at w arcs_before behind e rest lists depths head =
    let c = context_at page arcs_before behind in
    subst (λ (k : ℕ). ReadsRecord p c bits k w) e (rest arcs_before behind lists depths (subst (λ (k : ℕ). HeadStands p c bits k d r at) (sym e) head))

-- ---- the page that a reference names

-- one page serves, if each reference names it
pub alone_serves : (p : Parameters) (page : ℕ) (k : Known) → Ascends 0 k.list → Below p.nodes k.list → (0 < page → k.depth < page) → Serves p page (replicate p.window k)
alone_serves p page k up low deep = record {
  far = omega (arith, length-replicate p.window k);
  ascend = λ i near. rw (get_or-replicate p.window i k no_page (omega (arith, near))) up;
  below = λ i near. rw (get_or-replicate p.window i k no_page (omega (arith, near))) low;
  depths = λ i near. rw (get_or-replicate p.window i k no_page (omega (arith, near))) (deep (omega (arith, near)));
}

-- ---- the head is the same whatever the pages before are, if chains may have any length

judged_same : (p : Parameters) (c d : Context) (s : SoFar) (f : Field) (x : Read) (k : Kind) → ((v : ℕ) → refusal p d s f v ≡ refusal p c s f v) → judged p c s f x ≡ Some k → judged p d s f x ≡ Some k
judged_same p c d s f (reads.Value v) k same h = same v ∙ h
judged_same p c d s f reads.Cut k same h = h
judged_same p c d s f reads.NoWord k same h = h

refused_same : (p : Parameters) (c d : Context) (s : SoFar) (f : Field) (code : Code) (bits : List Bool) (start at : ℕ) (e : Fault) → ((v : ℕ) → refusal p d s f v ≡ refusal p c s f v) →
    Refused (need.Read f code) p c bits start s at e → Refused (need.Read f code) p d bits start s at e
refused_same p c d s f code bits start at e same h = (h.0, h.1, judged_same p c d s f h.0 e.kind same h.2, h.3, h.4)

pub head_stands_at : (p q : Parameters) (page arcs_before : ℕ) (behind others : List Known) (bits : List Bool) (start d r end : ℕ) → q ≡ endless p → HeadStands q (context_at page arcs_before behind) bits start d r end →
    HeadStands (endless p) (context_at page arcs_before others) bits start d r end
unfolding next refusal after
head_stands_at p q page arcs_before behind others bits start d r end is h = subst (λ (x : Parameters). HeadStands x (context_at page arcs_before behind) bits start d r end) is h

pub head_fails_at : (p q : Parameters) (page arcs_before : ℕ) (behind others : List Known) (bits : List Bool) (start : ℕ) (e : Fault) → q ≡ endless p → HeadFails q (context_at page arcs_before behind) bits start e →
    HeadFails (endless p) (context_at page arcs_before others) bits start e
unfolding next refusal after
head_fails_at p q page arcs_before behind others bits start e is fails =
    let here = context_at page arcs_before behind in
    let there = context_at page arcs_before others in
    let h = subst (λ (x : Parameters). HeadFails x here bits start e) is fails in (
      elim h.0 [
        | inl bad ↦ inl (refused_same (endless p) here there nothing_yet field.Outdegree p.outdegrees bits start start e (λ v. refl) bad)
        | inr k ↦ inr (k.0, k.1, k.2, (k.3.0, refused_same (endless p) here there (of_outdegree k.0) field.Reference p.references bits start k.1 e (λ v. refl) k.3.1))
      ],
      h.1,
    )
