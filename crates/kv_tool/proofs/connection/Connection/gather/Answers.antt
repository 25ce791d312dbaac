use Rattle.kv_tool.proofs.connection.Connection.gather.Goals as goal

-- a reply has a frame under whatever is granted
pub answer-requires : goal.answer-requires
answer-requires g c = c.requires c.args.self.now.session.features
