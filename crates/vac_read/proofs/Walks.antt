-- Names one after another.
use Rattle.std.proofs.Common.{◌≡◌, Option, Some, None, List, [], ◌∷◌, ◌++◌, ℕ, refl, sym, subst, inl, inr}
use Rattle.vt_tree.specs.Maps.{BlockMap}
use Rattle.vac_read.specs.declared.error.VacBad.{VacBad}
use Rattle.vac_read.specs.declared.node.Node.{Node}
use Rattle.vac_read.specs.Broken.{IsUnfound}
use Rattle.vac_read.specs.Nodes.{FindsNode, Leads}
use Rattle.vac_read.specs.Reading.{IsLost}

same_node : (a b : Node) → Some a ≡ Some b → a ≡ b
same_node a b e = cc

leads_end : (map : BlockMap) (found : Option Node) → Leads map found [] found
leads_end map None = refl
leads_end map (Some node) = refl

module _ (map : BlockMap) (name : List ℕ) (rest : List (List ℕ)) (found : Node) where
  -- names, and then another
  pub leads_on : (next last : Option Node) (start : Option Node) (names : List (List ℕ))
      → Leads map start names (Some found) → FindsNode map found.stored name next
      → Leads map next rest last → Leads map start (names ++ name ∷ rest) last
  leads_on next last None names leads finds then = let never : Some found ≡ None = leads in cc
  leads_on next last (Some node) [] leads finds then =
      let same = same_node found node leads in
      (next, subst (λ (n : Node). FindsNode map n.stored name next) same finds, then)
  leads_on next last (Some node) (a ∷ names) leads finds then =
      (leads.0, leads.1, leads_on next last leads.0 names leads.2 finds then)

  lost_below : (bad : VacBad) (start : Option Node) (names : List (List ℕ))
      → Leads map start names (Some found) → IsUnfound map found.stored name bad
      → (node : Node) × (start ≡ Some node) × IsLost map node (names ++ name ∷ rest) bad
  lost_below bad None names leads unfound = let never : Some found ≡ None = leads in cc
  lost_below bad (Some node) [] leads unfound =
      let same = same_node found node leads in
      (node, refl, inl (subst (λ (n : Node). IsUnfound map n.stored name bad) same unfound))
  lost_below bad (Some node) (a ∷ names) leads unfound =
      let below = lost_below bad leads.0 names leads.2 unfound in
      let finds = subst (λ (o : Option Node). FindsNode map node.stored a o) below.1 leads.1 in
      (node, refl, inr (below.0, finds, below.2))

  -- names, and then one that isn't told
  pub lost_on : (bad : VacBad) (node : Node) (names : List (List ℕ))
      → Leads map (Some node) names (Some found) → IsUnfound map found.stored name bad
      → IsLost map node (names ++ name ∷ rest) bad
  lost_on bad node names leads unfound =
      let below = lost_below bad (Some node) names leads unfound in
      subst (λ (n : Node). IsLost map n (names ++ name ∷ rest) bad)
      (sym (same_node node below.0 below.1)) below.2

pub leads_one_more : (map : BlockMap) (name : List ℕ) (node found : Node) (next : Option Node)
    (names : List (List ℕ)) → Leads map (Some node) names (Some found)
    → FindsNode map found.stored name next → Leads map (Some node) (names ++ name ∷ []) next
leads_one_more map name node found next names leads finds =
    leads_on map name [] found next next (Some node) names leads finds (leads_end map next)

pub leads_nowhere : (map : BlockMap) (name : List ℕ) (rest : List (List ℕ)) (node found : Node)
    (names : List (List ℕ)) → Leads map (Some node) names (Some found)
    → FindsNode map found.stored name None → Leads map (Some node) (names ++ name ∷ rest) None
leads_nowhere map name rest node found names leads finds =
    leads_on map name rest found None None (Some node) names leads finds refl
