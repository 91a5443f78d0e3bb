use Rattle.wg_shape.proofs.Quotients.{is_quotient, one_quotient}
use Rattle.wg_shape.proofs.ByLaw.{by_pages, of_transposed}
use Rattle.wg_shape.proofs.laws.quotients.Goals as goal

pub returns : goal.returns
returns c = record {
  exists = λ g classes n ok size below. is_quotient g ok classes n size below;
  one = one_quotient;
  pages = by_pages;
  transposed = λ g classes n ok size below. of_transposed g ok classes n size below;
}
