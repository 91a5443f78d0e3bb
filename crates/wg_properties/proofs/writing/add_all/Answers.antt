use Rattle.std.proofs.Common.{List, ℕ, [], ◌∷◌, ◌++◌, ◌≡◌, ap, refl, ◌∙◌, codes}
use Rattle.std.specs.Prelude.{decimal}
use Rattle.std.specs.List.{flat_map}
use Rattle.wg_params.specs.declared.key.Key.TheVariants as key
use Rattle.wg_properties.specs.Words.{class_name}
use Rattle.wg_properties.specs.Text.{pair, ended, chain_text, flags_text, written_lines}
use Rattle.wg_properties.proofs.Lined.{line_more}
use Rattle.wg_properties.proofs.writing.add_all.Goals as goal

pub returns : goal.returns
unfolding written_lines class_name
returns c =
    let p = c.args.params.now in
    let head : List (List ℕ) = codes "#BVGraph properties" ∷ [] in
    let t1 : c.extend.new.self ≡ flat_map ended head = line_more [] c.args.text.now c.extend.new.self (codes "#BVGraph properties") _ c.requires c.in_ok-extend.ensures.ok refl in
    let l2 : List (List ℕ) = head ++ pair key.Version (codes "0") ∷ [] in
    let t2 = line_more head _ _ (pair key.Version (codes "0")) _ t1 c.in_ok-add_line.ensures refl in
    let l3 : List (List ℕ) = l2 ++ pair key.Nodes (decimal p.nodes) ∷ [] in
    let t3 = line_more l2 _ _ (pair key.Nodes (decimal c.nodes.result)) (pair key.Nodes (decimal p.nodes)) t2 c.in_ok-add_number.ensures (ap (λ n. pair key.Nodes (decimal n)) c.nodes.ensures.value) in
    let l4 : List (List ℕ) = l3 ++ pair key.Arcs (decimal p.arcs) ∷ [] in
    let t4 = line_more l3 _ _ (pair key.Arcs (decimal c.arcs.result)) (pair key.Arcs (decimal p.arcs)) t3 c.in_ok-add_number-2.ensures (ap (λ n. pair key.Arcs (decimal n)) c.arcs.ensures.value) in
    let l5 : List (List ℕ) = l4 ++ pair key.WindowSize (decimal p.window) ∷ [] in
    let t5 = line_more l4 _ _ (pair key.WindowSize (decimal c.window.result)) (pair key.WindowSize (decimal p.window)) t4 c.in_ok-add_number-3.ensures (ap (λ n. pair key.WindowSize (decimal n)) c.window.ensures.value) in
    let l6 : List (List ℕ) = l5 ++ pair key.MaxRefCount (chain_text p.chain) ∷ [] in
    let t6 = line_more l5 _ _ (pair key.MaxRefCount (chain_text c.chain.result)) (pair key.MaxRefCount (chain_text p.chain)) t5 c.in_ok-add_chain.ensures (ap (λ n. pair key.MaxRefCount (chain_text n)) c.chain.ensures.value) in
    let l7 : List (List ℕ) = l6 ++ pair key.MinIntervalLength (decimal p.interval) ∷ [] in
    let t7 = line_more l6 _ _ (pair key.MinIntervalLength (decimal c.interval.result)) (pair key.MinIntervalLength (decimal p.interval)) t6 c.in_ok-add_number-4.ensures (ap (λ n. pair key.MinIntervalLength (decimal n)) c.interval.ensures.value) in
    let l8 : List (List ℕ) = l7 ++ pair key.ZetaK (decimal p.zeta) ∷ [] in
    let t8 = line_more l7 _ _ (pair key.ZetaK (decimal c.from.result)) (pair key.ZetaK (decimal p.zeta)) t7 c.in_ok-add_number-5.ensures (ap (λ n. pair key.ZetaK (decimal n)) (c.from.ensures ∙ c.zeta.ensures.value)) in
    let l9 : List (List ℕ) = l8 ++ pair key.CompressionFlags (flags_text p) ∷ [] in
    let t9 = line_more l8 _ _ (pair key.CompressionFlags (flags_text p)) _ t8 c.in_ok-add_codes.ensures refl in
    line_more l9 _ _ (pair key.GraphClass class_name) _ t9 c.in_ok-add_line-2.ensures refl
