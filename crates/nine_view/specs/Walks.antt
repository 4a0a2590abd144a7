-- Where names lead (walk(5)).
use Rattle.std.specs.Prelude.{ℕ, ◌≡◌, ◌⊎◌, MatchBool, false, Option, Some, None, Result, Ok, Err, List, [], ◌∷◌, codes}
use Rattle.std.specs.Str.{bytes_eq}
use Rattle.vt_tree.specs.Maps.{BlockMap}
use Rattle.vac_read.specs.declared.error.VacBad.{VacBad}
use Rattle.vac_read.specs.declared.node.Node.{Node}
use Rattle.vac_read.specs.Broken.{IsUnfound}
use Rattle.vac_read.specs.Nodes.{FindsNode}
use Rattle.nine_wire.specs.Messages.{Qid}
use Rattle.nine_view.specs.declared.place.Place.{Place}
use Rattle.nine_view.specs.declared.request_error.RequestError.{RequestError}
use Rattle.nine_view.specs.declared.request_error.RequestError.TheVariants.{NoDirectory, NoFile}
use Rattle.nine_view.specs.Files.{is_folder, qid_of}

-- the folder above; the top folder's is itself
abbrev pub parent : (node : Node) → (above : List Node) → Place
parent node [] = record { node = node; above = [] }
parent node (up ∷ above) = record { node = up; above = above }

-- the file that was found in a folder, or none
abbrev pub into : Place → Option Node → Result Place RequestError
into at None = Err NoFile
into at (Some node) = Ok (record { node = node; above = at.node ∷ at.above })

-- the name of the folder above
abbrev pub dots : List ℕ
dots = codes ".."

-- one name further, or why not
abbrev pub StepsTo : BlockMap → Place → (name : List ℕ) → Result Place RequestError → Type 0
StepsTo map at name next =
    MatchBool (is_folder at.node.stored)
    (MatchBool (bytes_eq name dots)
    (next ≡ Ok (parent at.node at.above))
    ((found : Option Node) × FindsNode map at.node.stored name found × (next ≡ into at found)))
    (next ≡ Err NoDirectory)

-- the qids of the files on a way, and where it ends, or why no further
pub record Walk : Type 0 where
  pub qids : List Qid
  pub end : Result Place RequestError

-- a walk that begins with this step
abbrev pub further : Result Place RequestError → Walk → Walk
further (Err why) rest = rest
further (Ok at) rest = record { qids = qid_of at.node ∷ rest.qids; end = rest.end }

-- where these names lead, one after another, from a place that was reached, or wasn't
abbrev pub Walks : BlockMap → Result Place RequestError → (names : List (List ℕ)) → Walk → Type 0
Walks map (Err why) names walk = walk ≡ record { qids = []; end = Err why }
Walks map (Ok at) [] walk = walk ≡ record { qids = []; end = Ok at }
Walks map (Ok at) (name ∷ names) walk =
    (next : Result Place RequestError) × (rest : Walk)
    × StepsTo map at name next × Walks map next names rest × (walk ≡ further next rest)

-- Why it can't be told where these names lead: the folder in which the next one is looked for is
-- broken.
abbrev pub IsLost : BlockMap → Result Place RequestError → (names : List (List ℕ)) → VacBad → Type 0
IsLost map (Err why) names bad = ⊥
IsLost map (Ok at) [] bad = ⊥
IsLost map (Ok at) (name ∷ names) bad =
    ((bytes_eq name dots ≡ false) × IsUnfound map at.node.stored name bad)
    ⊎ ((next : Result Place RequestError) × StepsTo map at name next × IsLost map next names bad)
