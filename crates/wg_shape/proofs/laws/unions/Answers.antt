use Rattle.wg_graph.proofs.NumberByNumber.{union_ascends}
use Rattle.wg_shape.proofs.Unions.{in_union}
use Rattle.wg_shape.proofs.GraphUnions.{is_union, one_union, either_way, with_itself}
use Rattle.wg_shape.proofs.laws.unions.Goals as goal

pub returns : goal.returns
returns c = record {
  lists = λ xs ys up_x up_y. (union_ascends 0 xs ys up_x up_y, λ y. in_union y xs ys);
  exists = is_union;
  one = one_union;
  commute = either_way;
  itself = with_itself;
}
