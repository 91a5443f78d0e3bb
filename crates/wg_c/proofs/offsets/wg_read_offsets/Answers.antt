use Rattle.std.proofs.Common.{◌≡◌, ◌∙◌, ℕ, Err, ap, subst}
use Rattle.wg_params.specs.declared.code.Code.{Code}
use Rattle.wg_params.specs.Parameters.{Parameters}
use Rattle.wg_bits.specs.Bits.{bits_of}
use Rattle.wg_offsets.specs.Words.{ReadsOffsets}
use Rattle.wg_c.specs.Numbers.{params_in}
use Rattle.wg_c.proofs.offsets.wg_read_offsets.Goals as goal

pub returns-in-Err-clause-fault : goal.returns-in-Err-clause-fault
returns-in-Err-clause-fault c = λ _.
    let p = params_in c.args.params.now in
    let bits = bits_of c.args.file.now in
    let w = c.in-Err.word in
    let is : c.in-Some.read ≡ p = c.in-Some.ensures.some in
    let n : c.nodes-2.result ≡ p.nodes = c.nodes-2.ensures.value ∙ ap (λ (q : Parameters). q.nodes) is in
    let k : c.offsets.result ≡ p.offsets = c.offsets.ensures.value ∙ ap (λ (q : Parameters). q.offsets) is in
    (w, subst (λ (m : ℕ). ReadsOffsets p.offsets m bits (Err w)) n (subst (λ (d : Code). ReadsOffsets d c.nodes-2.result bits (Err w)) k c.in-Err.ensures.refused), c.word_in.ensures)
