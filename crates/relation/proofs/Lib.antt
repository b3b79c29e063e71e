pub mod LiteralLaws
pub mod RelationLaws
pub mod ClassLaws
pub mod JoinLaws
pub mod RankLaws
pub mod ShareLaws
