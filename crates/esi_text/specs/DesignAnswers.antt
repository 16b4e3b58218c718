-- What an answer of the reader of designs holds.
use Rattle.design_tree.specs.declared.design.DesignTree.{DesignTree}
use Rattle.esi_text.specs.declared.design.Design.{Design}

-- the syntax tree, without the text that the design keeps
abbrev pub tree_of : Design → DesignTree
tree_of design = design.tree
