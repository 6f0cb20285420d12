use Rattle.std.proofs.Common.{List, subst}
use Rattle.xml_lexer.specs.View.{token_views}
use Rattle.xml_lexer.specs.declared.token.Token.{Token as CodeToken}
use Rattle.voe_tree.specs.Document.{IsRootOf}
use Rattle.voe_tree.specs.Fault.{RefusesTokens}
use Rattle.voe_tree.proofs.DocumentXml.{tokens_xml}
use Rattle.voe_tree.proofs.ReadLaws.{refuses_bytes}
use Rattle.voe_tree.proofs.SoundLaws.{root_sound}
use Rattle.voe_tree.proofs.read.read_tree.Goals as goal

pub invariant_of-tree : goal.invariant_of-tree
invariant_of-tree c =
    let ks = token_views c.in-Ok.tokens.items in
    let root = c.in-Ok-read_root.root in
    record {
      well_formed = root_sound ks root (tokens_xml ks c.args.bytes.now c.in-Ok.ensures)
          (subst (λ (l : List CodeToken). IsRootOf root (token_views l)) c.deref.ensures.value c.in-Ok-read_root.ensures.root);
    }

pub returns-in-Err : goal.returns-in-Err
returns-in-Err c = c.refused.ensures c.args.bytes.now c.in-Err.ensures

pub returns-in-Ok-read_root : goal.returns-in-Ok-read_root
returns-in-Ok-read_root c = (
  token_views c.in-Ok.tokens.items,
  c.in-Ok.ensures,
  subst (λ (l : List CodeToken). IsRootOf c.in-Ok-read_root.root (token_views l)) c.deref.ensures.value c.in-Ok-read_root.ensures.root,
)

pub returns : goal.returns
returns c =
    refuses_bytes c.args.bytes.now (token_views c.in-Ok.tokens.items) c.in-Err-read_root.fault c.in-Ok.ensures
    (subst (λ (l : List CodeToken). RefusesTokens (token_views l) c.in-Err-read_root.fault) c.deref.ensures.value c.in-Err-read_root.ensures.fault)
