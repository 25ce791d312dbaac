-- What is told of bytes: the values of the text that they are, or where they stop to be the front of one.
use Rattle.std.specs.Prelude.{◌≡◌, ℕ, List}
use Rattle.json_model.specs.declared.TheConstants.{MOST_DEEP}
use Rattle.json_model.specs.Spelled.{Document, IsText}
use Rattle.json_model.specs.Fronts.{IsNot, IsDeep}
use Rattle.json_spell.specs.declared.node.Node.{Node}
use Rattle.json_spell.specs.declared.scanned.Scanned.{Scanned}
use Rattle.json_spell.specs.declared.scanned.Scanned.TheVariants as scans
use Rattle.json_spell.specs.declared.judging.Judgement.{Judgement}
use Rattle.json_spell.specs.declared.judging.Judgement.TheVariants as judgements
use Rattle.json_spell.specs.Nodes.{document_nodes}

-- what is told of bytes that are a text: the values of its tree
abbrev pub Spans : List ℕ → List Node → Type 0
Spans bytes nodes = (d : Document) × IsText MOST_DEEP d bytes × (nodes ≡ document_nodes d)

-- what is told of bytes
abbrev pub Scans : List ℕ → Scanned → Type 0
Scans bytes (scans.Json spans) = Spans bytes spans
Scans bytes (scans.Not place) = IsNot bytes place
Scans bytes (scans.Deep place) = IsDeep bytes place
Scans bytes scans.NoMemory = Unit {0}

-- this text is found: nothing else is told, unless memory was refused
abbrev pub Finds : Document → Scanned → Type 0
Finds d (scans.Json spans) = spans ≡ document_nodes d
Finds d (scans.Not place) = ⊥
Finds d (scans.Deep place) = ⊥
Finds d scans.NoMemory = Unit {0}

-- what is told of bytes without the values
abbrev pub Judges : List ℕ → Judgement → Type 0
Judges bytes judgements.Json = (d : Document) × IsText MOST_DEEP d bytes
Judges bytes (judgements.Not place) = IsNot bytes place
Judges bytes (judgements.Deep place) = IsDeep bytes place
